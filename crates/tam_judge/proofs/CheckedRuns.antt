-- The run of a class by the checker of journals, and what it is to know of blocks.
use Rattle.std.proofs.Common.{◌≡◌, ℕ, Bool, true, false, List, [], ◌∷◌, ◌++◌, refl, sym, ap, ◌∙◌, subst, length, ◌<◌, ◌≤◌, arith}
use Rattle.std.proofs.Common.{reverse, true≢false}
use Rattle.std.proofs.lemmas.List.{append-nil, append_assoc, map-append, reverse-append}
use Rattle.tam_graph.specs.Graphs.{Graph, code_of}
use Rattle.tam_split.specs.Blocks.{BlockGraph, vertex_at}
use Rattle.tam_split.specs.Partitions.{Parts, class_at}
use Rattle.tam_split.specs.GraphPartitions.{Partitions, firing_order}
use Rattle.tam_msgs.specs.declared.message.Message.{Message}
use Rattle.tam_world.specs.Worlds.{World, Effect, changes, has_entered}
use Rattle.tam_flow.specs.Journals.{State, Run, fire_each, class_fired, has_run, block_of_act, parts_of_act, inlets_have_words, those_before_ran, may_follow}
use Rattle.tam_judge.specs.declared.machine.ClassRun.{ClassRun}
use Rattle.tam_judge.specs.Machines.{effected, run_of, runs_of}
use Rattle.tam_judge.specs.ClassSteps.{fired_at, all_fired}
use Rattle.tam_judge.specs.CheckedEvents.{BlocksStand, IsAsked, Makes}
use Rattle.tam_flow.proofs.ActivationCounts.{then_one}
use Rattle.tam_flow.proofs.SoundStates.{IsSoundState}
use Rattle.tam_judge.proofs.MayFollow.{follows-run, no-run}

-- an effect with messages in front
abbrev behind : List Message → Effect → Effect
behind ms e = record { world = e.world; sends = ms ++ e.sends }

-- messages that were sent before stay in front, at one place
one-behind : (g : Graph) (b : BlockGraph) (i : ℕ) (ms : List Message) (e : Effect) (x : ℕ) → then_one g b i (behind ms e) x ≡ behind ms (then_one g b i e x)
one-behind g b i ms e x = go (vertex_at b x).inlet refl
  where
    go : (t : Bool) → (vertex_at b x).inlet ≡ t → then_one g b i (behind ms e) x ≡ behind ms (then_one g b i e x)
    go true d = rw (then_one, d) refl
    go false d = rw (then_one, d, append_assoc) refl

-- and at several
each-behind : (g : Graph) (b : BlockGraph) (i : ℕ) (ms : List Message) (e : Effect) (xs : List ℕ)
    → fire_each g b i (behind ms e) xs ≡ behind ms (fire_each g b i e xs)
each-behind g b i ms e [] = refl
each-behind g b i ms e (x ∷ xs) = ap (λ (f : Effect). fire_each g b i f xs) (one-behind g b i ms e x) ∙ each-behind g b i ms (then_one g b i e x) xs

-- the first place does what it does
one-at : (g : Graph) (b : BlockGraph) (i x : ℕ) (w : World) → then_one g b i (changes w) x ≡ fired_at g b i x w
one-at g b i x w = go (vertex_at b x).inlet refl
  where
    go : (t : Bool) → (vertex_at b x).inlet ≡ t → then_one g b i (changes w) x ≡ fired_at g b i x w
    go true d = rw (then_one, fired_at, d) refl
    go false d = rw (then_one, fired_at, d) refl

-- an effect is one of no messages behind its own
as-behind : (e : Effect) → e ≡ behind e.sends (changes e.world)
as-behind e = rw (append-nil e.sends) refl

-- one place, and then the rest
pub fired-next : (g : Graph) (b : BlockGraph) (i x : ℕ) (xs : List ℕ) (s t : State) → t ≡ effected s (fired_at g b i x s.world)
    → effected t (all_fired g b i xs t.world) ≡ effected s (all_fired g b i (x ∷ xs) s.world)
fired-next g b i x xs s t is = rw is (sym (
    ap (λ (f : Effect). effected s (fire_each g b i f xs)) (one-at g b i x s.world ∙ as-behind first)
    ∙ ap (effected s) (each-behind g b i first.sends (changes first.world) xs) ∙ joined))
  where
    first : Effect
    first = fired_at g b i x s.world

    rest : Effect
    rest = all_fired g b i xs first.world

    joined : effected s (behind first.sends rest) ≡ effected (effected s first) rest
    joined = ap (λ (sent : List Message). let v : State = record s { world = rest.world; sent = sent } in v) (sym (append_assoc s.sent first.sends rest.sends))

-- a class of a block, where these are the classes of the block
module _ (g : Graph) (all : Partitions) (s : State) (i b c : ℕ) (p : Parts) (parts_are : parts_of_act g all s i b ≡ p) where
  -- there is no such class
  pub no-class : length p ≤ c → may_follow g all s (Run i b c) ≡ false
  no-class past = no-run g all s i b c (λ r. absurd (omega (arith, past, r.class, ap length parts_are)))

  -- it has run
  pub ran-before : has_run s i b c ≡ true → may_follow g all s (Run i b c) ≡ false
  ran-before ran = no-run g all s i b c (λ r. true≢false (sym ran ∙ r.once))

  -- its block wasn't entered
  pub not-entered : has_entered s.world i b ≡ false → may_follow g all s (Run i b c) ≡ false
  not-entered closed = no-run g all s i b c (λ r. true≢false (sym r.open_block ∙ closed))

-- and where this is its graph, and these are the places of the class
module _ (g : Graph) (all : Partitions) (s : State) (i b c : ℕ) (p : Parts) (block : BlockGraph) (class : List ℕ)
    (parts_are : parts_of_act g all s i b ≡ p) (block_is : block ≡ block_of_act g s i b) (class_is : class ≡ class_at p c) where
  -- the places are those of the class
  places-are : class_at (parts_of_act g all s i b) c ≡ class
  places-are = ap (λ (q : Parts). class_at q c) parts_are ∙ sym class_is

  -- the test of the inlets is that of its inlets
  inlets-are : inlets_have_words (block_of_act g s i b) s i (class_at (parts_of_act g all s i b) c) ≡ inlets_have_words block s i class
  inlets-are =
      ap (λ (e : BlockGraph). inlets_have_words e s i (class_at (parts_of_act g all s i b) c)) (sym block_is)
      ∙ ap (λ (l : List ℕ). inlets_have_words block s i l) places-are

  -- and so is that of the classes before
  before-are : those_before_ran (block_of_act g s i b) (parts_of_act g all s i b) s i b c ≡ those_before_ran block p s i b c
  before-are =
      ap (λ (e : BlockGraph). those_before_ran e (parts_of_act g all s i b) s i b c) (sym block_is)
      ∙ ap (λ (q : Parts). those_before_ran block q s i b c) parts_are

  -- an inlet has no word
  pub inlet-missing : inlets_have_words block s i class ≡ false → may_follow g all s (Run i b c) ≡ false
  inlet-missing fails = no-run g all s i b c (λ r. true≢false (sym r.inlets ∙ inlets-are ∙ fails))

  -- a class before it has not run
  pub class-missing : those_before_ran block p s i b c ≡ false → may_follow g all s (Run i b c) ≡ false
  class-missing fails = no-run g all s i b c (λ r. true≢false (sym r.before ∙ before-are ∙ fails))

  -- it may run, and has
  pub class-ran : (order : List ℕ) (t v : State) → IsAsked s p (record { act = i; block = b; class = c }) → inlets_have_words block s i class ≡ true
      → those_before_ran block p s i b c ≡ true → order ≡ firing_order block.edges class → t ≡ effected s (all_fired g block i order s.world)
      → v ≡ record t { ran = (i, b, c) ∷ t.ran } → Makes g all s v (Run i b c) true
  class-ran order t v asked inlets before order_is t_is v_is = (
    follows-run g all s i b c asked.whole (record {
      there = asked.there;
      class = omega (arith, asked.class, ap length parts_are);
      once = asked.once;
      open_block = asked.entered;
      inlets = inlets-are ∙ inlets;
      before = before-are ∙ before;
    }),
    v_is ∙ ap (λ (u : State). let w : State = record u { ran = (i, b, c) ∷ u.ran } in w) (t_is ∙ ap (effected s) effect-is),
  )
    where
      effect-is : all_fired g block i order s.world ≡ class_fired g all s i b c
      effect-is =
          ap (λ (l : List ℕ). all_fired g block i l s.world) (order_is ∙ ap (λ (l : List ℕ). firing_order block.edges l) (sym places-are))
          ∙ ap (λ (e : BlockGraph). all_fired g e i (firing_order e.edges (class_at (parts_of_act g all s i b) c)) s.world) block_is

-- a run more
ran-more : (runs : List ClassRun) (run : ClassRun) → reverse (runs_of (runs ++ run ∷ [])) ≡ run_of run ∷ reverse (runs_of runs)
ran-more runs run = ap reverse (map-append run_of runs (run ∷ [])) ∙ reverse-append (runs_of runs) (run_of run ∷ [])

-- the state with a run more
pub run-noted : (t : State) (runs more : List ClassRun) (run : ClassRun) → t.ran ≡ reverse (runs_of runs) → more ≡ runs ++ run ∷ []
    → record t { ran = reverse (runs_of more) } ≡ record t { ran = run_of run ∷ t.ran }
run-noted t runs more run before is =
    ap (λ (l : List (ℕ × ℕ × ℕ)). let u : State = record t { ran = l } in u)
    (ap (λ (l : List ClassRun). reverse (runs_of l)) is ∙ ran-more runs run ∙ ap (λ (l : List (ℕ × ℕ × ℕ)). run_of run ∷ l) (sym before))

-- in a state that has its reasons the blocks that were entered are there
pub blocks-stand : (g : Graph) (args : List ℕ) (s : State) → IsSoundState g args s → BlocksStand g s.world
blocks-stand g args s sound = record {
  codes = sound.world.codes;
  blocks = λ i b t h. subst (λ c. b < length (code_of g c).owners) (sound.world.path_codes i t) (sound.world.blocks i b t h).1;
}
