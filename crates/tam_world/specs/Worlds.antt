-- The activations of a graph at run time, where activations and arrays are numbers, and what a firing and a delivery do.
use Rattle.std.specs.Prelude.{ℕ, Bool, true, false, ◌==◌, List, [], ◌∷◌, ◌++◌, map, flat_map, Option, Some, None, slice_get, slice_index_or, option_to_list}
use Rattle.std.specs.Prelude.{is_some, length}
use Rattle.tam_word.specs.Lists.{changed_at, put_at}
use Rattle.tam_graph.specs.declared.kind.Kind.{Kind}
use Rattle.tam_graph.specs.declared.kind.Kind.TheVariants.{Const, Op as Operate, Seq, Call, Arg, Give, Alloc, Fetch, Store, Cond, Switch, Leave}
use Rattle.tam_msgs.specs.declared.message.Message.{Message}
use Rattle.tam_msgs.specs.declared.message.Message.TheVariants.{Word as Carry, Frame as Begin, Cells as Make, Fetch as Ask_cell, Store as Put_cell}
use Rattle.tam_word.specs.Words.{meaning}
use Rattle.tam_graph.specs.Graphs.{Code, Graph, code_of, kind_at, operands_of, callee_of, chosen_branch, owner_of, block_at, node_where, node_in, is_param}
use Rattle.tam_graph.specs.Graphs.{is_ret, is_enter, is_merge}
use Rattle.tam_msgs.specs.Messages.{outside, site, answers}
use Rattle.tam_istr.specs.Cells.{Arrays, Access, Now, Deferred, Stored, Twice, NotBelow, NoArray, with_array, fetched_from, stored_into}

-- an activation: its code, its caller and the caller's call that began it (for the root the outside and 0),
-- for each block whether it was entered, and for each node the word that it has got; a list that is shorter says no of the rest
pub record ActivationState : Type 0 where
  pub code : ℕ
  pub caller : ℕ
  pub call : ℕ
  pub entered : List Bool
  pub words : List (Option ℕ)

-- an activation that begins: its body is entered
abbrev pub begun : ℕ → ℕ → ℕ → ActivationState
begun c caller call = record { code = c; caller = caller; call = call; entered = true ∷ []; words = [] }

-- the activations in the order in which they began, the arrays by their numbers, and for each array the activation and the alloc that asked for it
pub record World : Type 0 where
  pub activations : List ActivationState
  pub arrays : Arrays
  pub makers : List (ℕ × ℕ)

-- what stands for an activation that isn't there
abbrev pub or_activation : Option ActivationState → ActivationState
or_activation None = record { code = 0; caller = 0; call = 0; entered = []; words = [] }
or_activation (Some a) = a

-- activation i
abbrev pub activation_at : World → ℕ → ActivationState
activation_at w i = or_activation (slice_get w.activations i)

-- the code of an activation
abbrev pub its_code : Graph → World → ℕ → Code
its_code g w i = code_of g (activation_at w i).code

-- the word that node x of activation i has got, if it has one
abbrev pub word_at : World → ℕ → ℕ → Option ℕ
word_at w i x = slice_index_or (activation_at w i).words x None

-- the same as a list of at most one
abbrev pub word_of : World → ℕ → ℕ → List ℕ
word_of w i x = option_to_list (word_at w i x)

-- the words of the nodes, as a list of at most one list: one where each has got a word
abbrev pub words_of : World → ℕ → List ℕ → List (List ℕ)
words_of w i [] = [] ∷ []
words_of w i (x ∷ xs) = flat_map (λ v. map (λ vs. v ∷ vs) (words_of w i xs)) (word_of w i x)

-- node x of activation i has got a word
abbrev pub has_word : World → ℕ → ℕ → Bool
has_word w i x = is_some (word_at w i x)

-- activation i has entered block b
abbrev pub has_entered : World → ℕ → ℕ → Bool
has_entered w i b = slice_index_or (activation_at w i).entered b false

-- ---- changes

-- an activation whose node x has got a word
abbrev pub with_word : ℕ → ℕ → ActivationState → ActivationState
with_word x v a = record a { words = put_at None x (Some v) a.words }

-- an activation that has entered block b
abbrev pub with_block : ℕ → ActivationState → ActivationState
with_block b a = record a { entered = put_at false b true a.entered }

-- node x of activation i gets a word
abbrev pub got : World → ℕ → ℕ → ℕ → World
got w i x v = record w { activations = changed_at i (with_word x v) w.activations }

-- each of the nodes found gets a word
abbrev pub all_got : World → ℕ → List ℕ → ℕ → World
all_got w i [] v = w
all_got w i (x ∷ xs) v = all_got (got w i x v) i xs v

-- activation i enters block b
abbrev pub entered : World → ℕ → ℕ → World
entered w i b = record w { activations = changed_at i (with_block b) w.activations }

-- ---- firing

-- what an event changes, and what it sends, in order
pub record Effect : Type 0 where
  pub world : World
  pub sends : List Message

-- an event that sends nothing
abbrev pub changes : World → Effect
changes w = record { world = w; sends = [] }

-- an event that sends messages, in this world
abbrev pub sends_only : World → List Message → Effect
sends_only w ms = record { world = w; sends = ms }

-- a result of activation i goes to the call that began it, or outside
abbrev pub result_message : Graph → World → ℕ → ℕ → ℕ → List Message
result_message g w i k v = elim ((activation_at w i).caller == outside) [
  | true ↦ Carry outside k v ∷ []
  | false ↦ map (λ x. Carry (activation_at w i).caller x v) (node_where (its_code g w (activation_at w i).caller) (is_ret (activation_at w i).call k))
]

-- the merges of place k of the conds found
abbrev pub merges_of : Code → ℕ → List ℕ → List ℕ
merges_of c k owners = flat_map (λ d. node_where c (is_merge d k)) owners

-- what node x of activation i does with the words of its operands
abbrev pub firing_of : Graph → World → ℕ → ℕ → Kind → List ℕ → Effect
firing_of g w i x (Const v) [] = changes (got w i x v)
firing_of g w i x (Operate o a b) (u ∷ v ∷ []) = changes (got w i x (meaning o u v))
firing_of g w i x (Seq a b) (u ∷ v ∷ []) = changes (got w i x u)
firing_of g w i x (Call c) [] = sends_only w (Begin c i x ∷ [])
firing_of g w i x (Arg f k a) (v ∷ p ∷ []) = sends_only w (map (λ y. Carry p y v) (node_where (code_of g (callee_of (its_code g w i) f)) (is_param k)))
firing_of g w i x (Give k a) (v ∷ []) = sends_only w (result_message g w i k v)
firing_of g w i x (Alloc n) (v ∷ []) = sends_only w (Make v i x ∷ [])
firing_of g w i x (Fetch a j) (u ∷ v ∷ []) = sends_only w (Ask_cell u v i x (site (activation_at w i).code x) ∷ [])
firing_of g w i x (Store a j b) (t ∷ u ∷ v ∷ []) = sends_only w (Put_cell t u v (site (activation_at w i).code x) ∷ [])
firing_of g w i x (Cond p y n) (v ∷ []) = changes (entered w i (chosen_branch (its_code g w i) x v))
firing_of g w i x (Switch c k a) (u ∷ v ∷ []) = changes (all_got w i (node_in (its_code g w i) (chosen_branch (its_code g w i) c u) (is_enter k)) v)
firing_of g w i x (Leave k a) (v ∷ []) = changes (all_got w i (merges_of (its_code g w i) k (owner_of (its_code g w i) (block_at (its_code g w i) x))) v)
firing_of g w i x _ vs = changes w

-- the firing of node x of activation i, once its operands have words
abbrev pub fired_with : Graph → World → ℕ → ℕ → List (List ℕ) → Effect
fired_with g w i x [] = changes w
fired_with g w i x (vs ∷ more) = firing_of g w i x (kind_at (its_code g w i) x) vs

-- the firing of node x of activation i
abbrev pub fired : Graph → World → ℕ → ℕ → Effect
fired g w i x = fired_with g w i x (words_of w i (operands_of (its_code g w i) (kind_at (its_code g w i) x)))

-- ---- delivery

-- what an access may find: two sites that store into one cell, or a site, its index and a length that the index isn't below
pub data Fault : Type 0 where
  Second_store : (first second : ℕ) → Fault
  Outside_cells : (site index len : ℕ) → Fault

-- what comes of a delivery
pub data Delivery : Type 0 where
  Went : (effect : Effect) → Delivery
  Printed : (place word : ℕ) → Delivery
  Faulted : (fault : Fault) → Delivery

-- what comes of an access at a site with an index (an array that isn't there is read as one of length 0, and never comes in an accepted graph)
abbrev pub accessed : World → ℕ → ℕ → ℕ × ℕ → ℕ → Access → Delivery
accessed w s i reader v (Now u) = Went (sends_only w (Carry reader.0 reader.1 u ∷ []))
accessed w s i reader v (Deferred arrays) = Went (changes (record w { arrays = arrays }))
accessed w s i reader v (Stored arrays readers) = Went (sends_only (record w { arrays = arrays }) (answers v readers))
accessed w s i reader v (Twice first) = Faulted (Second_store first s)
accessed w s i reader v (NotBelow n) = Faulted (Outside_cells s i n)
accessed w s i reader v NoArray = Faulted (Outside_cells s i 0)

-- the delivery of a message
abbrev pub delivered : World → Message → Delivery
delivered w (Carry f x v) = elim (f == outside) [ true ↦ Printed x v | false ↦ Went (changes (got w f x v)) ]
delivered w (Begin c f x) = Went (sends_only (record w { activations = w.activations ++ begun c f x ∷ [] }) (Carry f x (length w.activations) ∷ []))
delivered w (Make n f x) = Went (sends_only (record w {
  arrays = with_array w.arrays n;
  makers = w.makers
      ++ (f, x) ∷ [];
}) (Carry f x (length w.arrays) ∷ []))
delivered w (Ask_cell a i f x s) = accessed w s i (f, x) 0 (fetched_from w.arrays a i (f, x))
delivered w (Put_cell a i v s) = accessed w s i (0, 0) v (stored_into w.arrays a i v s)

-- ---- the beginning

-- the root has begun
abbrev pub opening : Graph → World
opening g = record { activations = begun g.main outside 0 ∷ []; arrays = []; makers = [] }

-- an argument on its way, with its place
abbrev pub argument_message : Graph → ℕ × ℕ → List Message
argument_message g kw = map (λ x. Carry 0 x kw.1) (node_where (code_of g g.main) (is_param kw.0))
