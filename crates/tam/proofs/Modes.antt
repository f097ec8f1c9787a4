-- What is known of the modes that run a graph, and of those that run thread code and images.
use Rattle.std.proofs.Common.{◌≡◌, true, false, refl, sym, ◌∙◌, ap, List, ℕ, true≢false}
use Rattle.std.specs.Prelude.{Option, Some, None}
use Rattle.tam_graph.specs.Graphs.{Graph}
use Rattle.tam_run.specs.declared.level.Level.{Level}
use Rattle.tam_words.specs.declared.mode.Mode.{Mode}
use Rattle.tam_words.specs.declared.mode.Mode.TheVariants as mode
use Rattle.tam_words.specs.Names.{runs, makes}
use Rattle.tam.specs.GraphAnswers.{reads_graph, listing, level_of}

-- no level is none
none-some : (level : Level) → ◌≡◌ {A = Option Level} None (Some level) → ⊥
none-some level e = cc

-- one level is one level
pub level-once : (a b : Level) → ◌≡◌ {A = Option Level} (Some a) (Some b) → a ≡ b
level-once a b e = cc

-- a mode that runs a graph reads one, makes a run, and makes and lists nothing
pub record RunsGraph (m : Mode) : Type 0 where
  pub reads_it : reads_graph m ≡ true
  pub runs_it : runs m ≡ true
  pub makes_none : makes m ≡ false
  pub lists_none : (g : Graph) → listing m g ≡ None

-- so does each with a level
pub runs-graph : (m : Mode) (level : Level) → level_of m ≡ Some level → RunsGraph m
runs-graph mode.Graph level e = record { reads_it = refl; runs_it = refl; makes_none = refl; lists_none = λ g. refl }
runs-graph mode.Tl0 level e = record { reads_it = refl; runs_it = refl; makes_none = refl; lists_none = λ g. refl }
runs-graph mode.Rv32 level e = record { reads_it = refl; runs_it = refl; makes_none = refl; lists_none = λ g. refl }
runs-graph mode.Check level e = absurd (none-some level e)
runs-graph mode.EmitDg level e = absurd (none-some level e)
runs-graph mode.Sets level e = absurd (none-some level e)
runs-graph mode.Parts level e = absurd (none-some level e)
runs-graph mode.EmitTl0 level e = absurd (none-some level e)
runs-graph mode.EmitAsm level e = absurd (none-some level e)
runs-graph mode.EmitImage level e = absurd (none-some level e)
runs-graph mode.Assemble level e = absurd (none-some level e)
runs-graph mode.ExecTl0 level e = absurd (none-some level e)
runs-graph mode.ExecRv32 level e = absurd (none-some level e)
runs-graph mode.Make level e = absurd (none-some level e)

-- a mode that reads a graph is none that doesn't
pub reads-other : (m other : Mode) → reads_graph m ≡ true → m ≡ other → reads_graph other ≡ false → ⊥
reads-other m other reads e none = true≢false (sym reads ∙ ap reads_graph e ∙ none)

-- nor has a mode a level that has none
pub level-other : (m other : Mode) (level : Level) → level_of m ≡ Some level → m ≡ other → level_of other ≡ None → ⊥
level-other m other level is e none = none-some level (sym none ∙ sym (ap level_of e) ∙ is)

-- what runs thread code makes nothing
pub code-makes : (m : Mode) → m ≡ mode.ExecTl0 → m ≡ mode.Make → ⊥
code-makes m e f = cc

-- nor does it assemble
pub code-assembles : (m : Mode) → m ≡ mode.ExecTl0 → m ≡ mode.Assemble → ⊥
code-assembles m e f = cc

-- what runs an image makes nothing
pub image-makes : (m : Mode) → m ≡ mode.ExecRv32 → m ≡ mode.Make → ⊥
image-makes m e f = cc

-- nor does it assemble
pub image-assembles : (m : Mode) → m ≡ mode.ExecRv32 → m ≡ mode.Assemble → ⊥
image-assembles m e f = cc

-- nor does it run thread code
pub image-code : (m : Mode) → m ≡ mode.ExecRv32 → m ≡ mode.ExecTl0 → ⊥
image-code m e f = cc

-- a mode that lists nothing lists no text
pub lists-no : (m : Mode) (g : Graph) (text : List ℕ) → listing m g ≡ None → listing m g ≡ Some text → ⊥
lists-no m g text none is = nothing (sym none ∙ is)
  where
    nothing : ◌≡◌ {A = Option (List ℕ)} None (Some text) → ⊥
    nothing e = cc

-- nor does one that is another which doesn't
pub lists-other : (m other : Mode) (g : Graph) (text : List ℕ) → m ≡ other → listing other g ≡ None → listing m g ≡ Some text → ⊥
lists-other m other g text e none is = lists-no m g text (ap (λ n. listing n g) e ∙ none) is
