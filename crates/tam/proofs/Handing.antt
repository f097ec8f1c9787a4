-- What a call does with the place for a machine.
use Rattle.std.proofs.Common.{◌≡◌, ◌⊎◌, inl, inr, ⊎_elim, ℕ, zero, suc, ◌+◌, ◌<◌, Bool, true, false, List, [], ◌∷◌, ◌++◌, length, take, refl, sym, ap}
use Rattle.std.proofs.Common.{◌∙◌, subst}
use Rattle.std.proofs.Common.{arith, true≢false}
use Rattle.std.specs.Prelude.{Option, Some, None, Result, Ok, Err, Vec, MatchResult}
use Rattle.std.specs.declared.alloc.Global.{Global}
use Rattle.tam_graph.specs.Graphs.{Graph}
use Rattle.tam_graph.specs.Reading.{Reads}
use Rattle.tam_make.specs.declared.shape.Shape.{Shape}
use Rattle.tam_make.specs.MadeTexts.{made_text, IsCount}
use Rattle.tam_make.specs.MadeGraphs.{MadeTextsAreAccepted}
use Rattle.tam_run.specs.declared.level.Level.{Level}
use Rattle.tam_run.specs.declared.level.Level.TheVariants as level
use Rattle.tam_run.specs.Accounts.{Account}
use Rattle.tam_run.specs.HandedOut.{with_left, handed_out}
use Rattle.tam_run.specs.Levels.{machine_at}
use Rattle.tam_words.specs.declared.mode.Mode.{Mode}
use Rattle.tam_words.specs.declared.mode.Mode.TheVariants as mode
use Rattle.tam_words.specs.Options.{usual_limits}
use Rattle.tam_words.specs.Jobs.{Asked}
use Rattle.tam_input.specs.declared.ending.Ending.{Ending}
use Rattle.tam_input.specs.declared.ending.Ending.TheVariants.{NoMemory, WriteFault}
use Rattle.tam_input.specs.Told.{Told, Contents}
use Rattle.tam_input.specs.Refusing.{no_memory_line}
use Rattle.tam_input.specs.Inputs.{Request, IsInput}
use Rattle.tl0_keep.specs.Compiled.{compiled}
use Rattle.rv_inst.specs.Harts.{Hart}
use Rattle.rv_inst.specs.Images.{Image}
use Rattle.rv_keep.specs.Image.{image_of}
use Rattle.tam.specs.GraphAnswers.{AsksGraph, level_of}
use Rattle.tam.specs.ImageAnswers.{AsksImage}
use Rattle.tam.specs.MadeRuns.{argument_of, levels, made_run}
use Rattle.tam.specs.Machines.{has_answered, left_by, LeavesMachine, of_graph, of_image, of_made, AsksMachine, HandsOver, behind_levels, BehindLevels}
use Rattle.tam.specs.Machines.{HandsMade}
use Rattle.tam.specs.Headline.{IsSaid}
use Rattle.tam.proofs.Asking.{same-input}
use Rattle.tam.proofs.Modes.{level-once, level-other, image-makes}
use Rattle.tam.proofs.Running.{said-unanswered}
use Rattle.tam.proofs.Spelling.{reads-once, image-once}

-- one machine is one machine
hart-once : (a b : Hart) → ◌≡◌ {A = Option Hart} (Some a) (Some b) → a ≡ b
hart-once a b e = cc

-- and no machine is none
none-some : (h : Hart) → ◌≡◌ {A = Option Hart} None (Some h) → ⊥
none-some h e = cc

-- one shape is one shape
shape-once : (a b : Shape) → ◌≡◌ {A = Option Shape} (Some a) (Some b) → a ≡ b
shape-once a b e = cc

-- ---- the place

-- a run without a machine leaves the place as it was
pub none-handed : (whole : Bool) (old : Option Hart) → handed_out whole None old ≡ old
none-handed true old = refl
none-handed false old = refl

module _ (Leaves : Hart → Type 0) (end : Ending) where
  -- nothing is handed out where nothing is answered
  pub unanswered-keeps : (place : Option Hart) → has_answered end ≡ false → HandsOver Leaves end place place
  unanswered-keeps place none = record { handed = λ h l a. absurd (true≢false (sym a ∙ none)); kept = λ all. refl }

  -- nor where no machine is left
  pub none-keeps : (place : Option Hart) → ((h : Hart) → Leaves h → ⊥) → HandsOver Leaves end place place
  none-keeps place none = record { handed = λ h l a. absurd (none h l); kept = λ all. refl }

  -- what is left by a run, as it is handed out behind it
  pub left-hands : (left old new : Option Hart) → new ≡ handed_out (has_answered end) left old → ((h : Hart) → Leaves h → left ≡ Some h)
      → ((h : Hart) → left ≡ Some h → Leaves h) → HandsOver Leaves end old new
  left-hands left old new is to from = record {
    handed = λ h l a. is ∙ ap (λ w. handed_out w left old) a ∙ ap (λ o. with_left o old) (to h l);
    kept = λ all. is ∙ go left refl all;
  }
    where
      go : (o : Option Hart) → left ≡ o → ((h : Hart) → Leaves h → has_answered end ≡ false) → handed_out (has_answered end) left old ≡ old
      go None e all = ap (λ l. handed_out (has_answered end) l old) e ∙ none-handed (has_answered end) old
      go (Some h) e all = ap (λ w. handed_out w left old) (all h (from h e))

  -- what is left by one name is left by another
  pub same-hands : (More : Hart → Type 0) (old new : Option Hart) → ((h : Hart) → More h → Leaves h) → ((h : Hart) → Leaves h → More h)
      → HandsOver Leaves end old new → HandsOver More end old new
  same-hands More old new to from d = record { handed = λ h m a. d.handed h (to h m) a; kept = λ all. d.kept (λ h l. all h (from h l)) }

-- a text that was made, or that memory was wanted, answers as the text was meant
pub made-unanswered : {E : Type 0} (meant end : Ending) (made : Result (Vec ℕ Global) E) (old new : Option (List ℕ)) (faults faults_new : ℕ)
    → has_answered meant ≡ false
    → MatchResult made (λ t. IsSaid meant t.items end old new faults faults_new) (λ e. IsSaid NoMemory no_memory_line end old new faults faults_new)
    → has_answered end ≡ false
made-unanswered meant end (Ok t) old new faults faults_new none s = said-unanswered meant end t.items old new faults faults_new s none
made-unanswered meant end (Err e) old new faults faults_new none s = said-unanswered NoMemory end no_memory_line old new faults faults_new s refl

-- ---- modes

-- the mode runs a machine
abbrev pub has_machine : Mode → Bool
has_machine mode.Graph = false
has_machine mode.Tl0 = false
has_machine mode.Rv32 = true
has_machine mode.Check = false
has_machine mode.EmitDg = false
has_machine mode.Sets = false
has_machine mode.Parts = false
has_machine mode.EmitTl0 = false
has_machine mode.EmitAsm = false
has_machine mode.EmitImage = false
has_machine mode.Assemble = false
has_machine mode.ExecTl0 = false
has_machine mode.ExecRv32 = true
has_machine mode.Make = true

-- the mode of the level of the machine is one of them
machine-mode : (m : Mode) → level_of m ≡ Some level.Rv32 → has_machine m ≡ true
machine-mode mode.Graph e = absurd (cc)
machine-mode mode.Tl0 e = absurd (cc)
machine-mode mode.Rv32 e = refl
machine-mode mode.Check e = absurd (cc)
machine-mode mode.EmitDg e = absurd (cc)
machine-mode mode.Sets e = absurd (cc)
machine-mode mode.Parts e = absurd (cc)
machine-mode mode.EmitTl0 e = absurd (cc)
machine-mode mode.EmitAsm e = absurd (cc)
machine-mode mode.EmitImage e = absurd (cc)
machine-mode mode.Assemble e = absurd (cc)
machine-mode mode.ExecTl0 e = absurd (cc)
machine-mode mode.ExecRv32 e = absurd (cc)
machine-mode mode.Make e = absurd (cc)

module _ (ask : Request) (bytes : List ℕ) where
  -- so is the mode of each run that leaves one
  leaves-mode : (h : Hart) → LeavesMachine ask bytes h → has_machine ask.mode ≡ true
  leaves-mode h (of_graph a e) = machine-mode ask.mode a.mode
  leaves-mode h (of_image a e) = ap has_machine a.mode
  leaves-mode h (of_made m s p e) = ap has_machine m

  -- in the other modes none is
  pub mode-keeps : (m : Mode) (end : Ending) (place : Option Hart) → ask.mode ≡ m → has_machine m ≡ false → HandsOver (LeavesMachine ask bytes) end place place
  mode-keeps m end place e none =
      none-keeps (LeavesMachine ask bytes) end place (λ h l. true≢false (sym (leaves-mode h l) ∙ ap has_machine e ∙ none))

-- ---- runs

module _ (ask : Request) (bytes : List ℕ) (at : Level) (g : Graph) (asks : AsksGraph ask bytes at g) (end : Ending) (old new : Option Hart) where
  abbrev Leaves : Hart → Type 0
  Leaves = LeavesMachine ask bytes

  -- of a graph
  pub graph-hands : new ≡ handed_out (has_answered end) (machine_at at g ask.args ask.order ask.limits) old → HandsOver Leaves end old new
  graph-hands is = left-hands Leaves end (machine_at at g ask.args ask.order ask.limits) old new is to (λ h e. from at asks h e)
    where
      to : (h : Hart) → Leaves h → machine_at at g ask.args ask.order ask.limits ≡ Some h
      to h (of_graph {g = k} a e) = subst (λ l. machine_at l g ask.args ask.order ask.limits ≡ Some h) (level-once level.Rv32 at (sym a.mode ∙ asks.mode))
          (ap (λ j. Some (left_by (image_of (compiled j)) ask.args ask.order ask.limits)) (reads-once bytes k g a.spelled.reads asks.spelled.reads)
          ∙ ap Some (sym e))
      to h (of_image a e) = absurd (level-other ask.mode mode.ExecRv32 at asks.mode a.mode refl)
      to h (of_made m s p e) = absurd (level-other ask.mode mode.Make at asks.mode m refl)

      from : (l : Level) → AsksGraph ask bytes l g → (h : Hart) → machine_at l g ask.args ask.order ask.limits ≡ Some h → Leaves h
      from level.Graph a h e = absurd (none-some h e)
      from level.Tl0 a h e = absurd (none-some h e)
      from level.Rv32 a h e = of_graph a (sym (hart-once (left_by (image_of (compiled g)) ask.args ask.order ask.limits) h e))

module _ (ask : Request) (bytes : List ℕ) (image : Image) (asks : AsksImage ask bytes image) (end : Ending) (old new : Option Hart) where
  abbrev left : Hart
  left = left_by image ask.args ask.order ask.limits

  -- of an image
  pub image-hands : new ≡ handed_out (has_answered end) (Some left) old → HandsOver (LeavesMachine ask bytes) end old new
  image-hands is = left-hands (LeavesMachine ask bytes) end (Some left) old new is to (λ h e. of_image asks (sym (hart-once left h e)))
    where
      to : (h : Hart) → LeavesMachine ask bytes h → Some left ≡ Some h
      to h (of_graph a e) = absurd (level-other ask.mode mode.ExecRv32 level.Rv32 a.mode asks.mode refl)
      to h (of_image {image = i} a e) =
          ap (λ k. Some (left_by k ask.args ask.order ask.limits)) (image-once bytes i image a.spelled asks.spelled) ∙ ap Some (sym e)
      to h (of_made m s p e) = absurd (image-makes ask.mode asks.mode m)

-- the machine as the run of a large input's graph leaves it
abbrev left-of : Shape → ℕ → Graph → Hart
left-of shape n g = left_by (image_of (compiled g)) (argument_of shape n ∷ []) [] usual_limits

module _ (ask : Request) (bytes : List ℕ) (shape : Shape) (makes-it : ask.mode ≡ mode.Make) (shape-is : ask.shape ≡ Some shape) (end : Ending)
    (old new : Option Hart) where
  -- of a large input
  pub made-hands : HandsMade shape ask.count end old new → HandsOver (LeavesMachine ask bytes) end old new
  made-hands (g, spelled, is) = left-hands (LeavesMachine ask bytes) end (Some (left-of shape ask.count g)) old new is to
      (λ h e. of_made makes-it shape-is spelled (sym (hart-once (left-of shape ask.count g) h e)))
    where
      to : (h : Hart) → LeavesMachine ask bytes h → Some (left-of shape ask.count g) ≡ Some h
      to h (of_graph a e) = absurd (level-other ask.mode mode.Make level.Rv32 a.mode makes-it refl)
      to h (of_image a e) = absurd (image-makes ask.mode a.mode makes-it)
      to h (of_made {shape = s} {g = k} m own p e) =
          let same : s ≡ shape = shape-once s shape (sym own ∙ shape-is) in
          let reads = subst (λ t. Reads (made_text t ask.count) k) same p.reads in
          ap (λ t. Some (left-of shape ask.count t)) (reads-once (made_text shape ask.count) k g reads spelled.reads)
          ∙ ap (λ t. Some (left-of t ask.count k)) (sym same) ∙ ap Some (sym e)

-- where nothing is answered, nothing is handed out, whatever a run would leave
pub unanswered-machine : (left : Option Hart) (end : Ending) (place : Option Hart) → has_answered end ≡ false
    → place ≡ handed_out (has_answered end) left place
unanswered-machine left end place none = sym (ap (λ w. handed_out w left place) none)

-- so it is of a large input
pub unanswered-made : MadeTextsAreAccepted → (shape : Shape) (n : ℕ) → IsCount shape n → (end : Ending) (place : Option Hart) → has_answered end ≡ false
    → HandsMade shape n end place place
unanswered-made law shape n count end place none =
    let m = law shape n count in
    (m.0, record { reads = m.1; accepted = m.2 }, unanswered-machine (made_run shape n m.0 level.Rv32).machine end place none)

-- ---- levels

-- one level more
behind-more : (run : Level → Account) (ls : List Level) (l : Level) (old : Option Hart)
    → behind_levels run (ls ++ l ∷ []) old ≡ with_left (run l).machine (behind_levels run ls old)
behind-more run [] l old = refl
behind-more run (k ∷ ls) l old = behind-more run ls l (with_left (run k).machine old)

module _ (run : Level → Account) (end : Ending) (old mid new : Option Hart) (before : List Level) (level : Level) (is : mid ≡ behind_levels run before old)
    (handed : new ≡ handed_out (has_answered end) (run level).machine mid) where
  -- a level that was run whole hands out its machine
  pub level-whole : has_answered end ≡ true → new ≡ behind_levels run (before ++ level ∷ []) old
  level-whole a = handed ∙ ap (λ w. handed_out w (run level).machine mid) a ∙ ap (with_left (run level).machine) is ∙ sym (behind-more run before level old)

  -- and one that was broken off leaves what was there
  pub level-broken : has_answered end ≡ false → new ≡ behind_levels run before old
  level-broken n = handed ∙ ap (λ w. handed_out w (run level).machine mid) n ∙ is

-- what breaks levels off answers nothing
pub off-unanswered : (end : Ending) → (end ≡ NoMemory) ⊎ (end ≡ WriteFault) → has_answered end ≡ false
off-unanswered end (inl e) = ap has_answered e
off-unanswered end (inr e) = ap has_answered e

-- behind levels of which one was broken off
pub levels-broken : (run : Level → Account) (ls : List Level) (end : Ending) (old new : Option Hart) (k : ℕ) → k < length ls
    → new ≡ behind_levels run (take k ls) old → has_answered end ≡ false → BehindLevels run ls end old new
levels-broken run ls end old new k there is none = record { whole = λ a. absurd (true≢false (sym a ∙ none)); broken = λ n. (k, there, is) }

-- and behind levels that were whole
pub levels-whole : (run : Level → Account) (ls : List Level) (end : Ending) (old new : Option Hart) → new ≡ behind_levels run ls old → has_answered end ≡ true
    → BehindLevels run ls end old new
levels-whole run ls end old new is answered = record { whole = λ a. is; broken = λ n. absurd (true≢false (sym answered ∙ n)) }

module _ (shape : Shape) (n : ℕ) (g : Graph) (end : Ending) (old new : Option Hart) where
  abbrev run : Level → Account
  run = made_run shape n g

  -- the last of the levels of a large input alone has a machine
  pub levels-hand : BehindLevels run levels end old new → new ≡ handed_out (has_answered end) (run level.Rv32).machine old
  levels-hand b = go (has_answered end) refl
    where
      none : (k : ℕ) → k < 3 → behind_levels run (take k levels) old ≡ old
      none zero l = refl
      none (suc zero) l = refl
      none (suc (suc zero)) l = refl
      none (suc (suc (suc k))) l = absurd (omega (arith, l))

      go : (w : Bool) → has_answered end ≡ w → new ≡ handed_out w (run level.Rv32).machine old
      go true e = b.whole e
      go false e = let k = b.broken e in k.2 ∙ none k.0 k.1

-- ---- the call

module _ (words : Asked) (contents : Contents) (before now : Told) (request : Request) (bytes : List ℕ)
    (input : IsInput words contents before now request bytes) where
  -- the machine of what was read is the one that is asked for
  pub call-hands : (end : Ending) (old new : Option Hart) → HandsOver (LeavesMachine request bytes) end old new
      → HandsOver (AsksMachine words contents) end old new
  call-hands end old new = same-hands (LeavesMachine request bytes) end (AsksMachine words contents) old new to from
    where
      to : (h : Hart) → AsksMachine words contents h → LeavesMachine request bytes h
      to h asks =
          let same = same-input words contents before now asks.ask asks.bytes asks.input request bytes input in
          subst (λ q. LeavesMachine q bytes h) (sym same.0) (subst (λ t. LeavesMachine asks.ask t h) (sym same.1) asks.leaves)

      from : (h : Hart) → LeavesMachine request bytes h → AsksMachine words contents h
      from h l = record {
        ask = request;
        bytes = bytes;
        input = record {
          job = input.job;
          order = input.order;
          asked = input.asked;
          same = input.same;
          ordered = input.ordered;
          text = input.text;
          few = input.few;
        };
        leaves = l;
      }
