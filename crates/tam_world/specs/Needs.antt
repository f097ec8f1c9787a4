-- What a node waits for before it may fire, as one entry of a table.
use Rattle.std.specs.Prelude.{ℕ, ◌≡◌, Bool, false, ◌&&◌, List, Option, Some, None, slice_get}
use Rattle.tam_word.specs.Lists.{all_of}
use Rattle.tam_graph.specs.declared.kind.Kind.{Kind}
use Rattle.tam_graph.specs.Graphs.{Code, kind_at, block_at, operands_of, fires}
use Rattle.tam_world.specs.declared.need.Need.{Need}
use Rattle.tam_world.specs.declared.need.Need.TheVariants.{Never, Block, Words}

-- the need is met where these blocks were entered and these nodes have words
abbrev pub is_met : (ℕ → Bool) → (ℕ → Bool) → Need → Bool
is_met entered fed Never = false
is_met entered fed (Block b) = entered b
is_met entered fed (Words b x y z) = (fed x && (fed y && fed z)) && entered b

-- the need is that of a node of this kind in this block: it fires, and waits for its block and for the words of its operands
pub record IsNeedOf (c : Code) (block : ℕ) (kind : Kind) (need : Need) : Type 0 where
  pub met : (entered fed : ℕ → Bool) → is_met entered fed need ≡ (fires kind && (entered block && all_of fed (operands_of c kind)))

-- a need, or that of a node that never fires
abbrev pub or_never : Option Need → Need
or_never None = Never
or_never (Some need) = need

-- each node of the code has its need at its place
abbrev pub AreNeedsOf : Code → List Need → Type 0
AreNeedsOf c needs = (x : ℕ) → IsNeedOf c (block_at c x) (kind_at c x) (or_never (slice_get needs x))
