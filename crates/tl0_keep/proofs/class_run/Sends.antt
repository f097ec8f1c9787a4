-- A node fires that sends a message: one instruction sends it, under the names of threads.
use Rattle.std.proofs.Common.{◌≡◌, ℕ, zero, suc, ◌+◌, ◌%◌, ◌^◌, ◌<◌, true, false, ◌==◌, List, [], ◌∷◌, map, slice_get, slice_index, length, refl, sym, ap, ◌∙◌}
use Rattle.std.proofs.Common.{subst, inl, inr, ⊎_elim, arith}
use Rattle.std.proofs.lemmas.Bool.{cases_eq}
use Rattle.std.specs.List.{AllByRecursion}
use Rattle.tam_flow.proofs.Nodes.{is-param, is-ret, where-each}
use Rattle.tam_word.proofs.Tests.{self-eq}
use Rattle.tam_msgs.specs.declared.message.Message.{Message}
use Rattle.tam_msgs.specs.declared.message.Message.TheVariants.{Word as Carry, Frame as Begin, Cells as Make, Fetch as Ask_cell, Store as Put_cell}
use Rattle.tam_msgs.specs.Messages.{outside, site}
use Rattle.tam_graph.specs.declared.kind.Kind.{Kind}
use Rattle.tam_graph.specs.declared.kind.Kind.TheVariants.{Param, Call as Invoke, Arg, Ret as Returned, Give as Yield, Alloc, Fetch}
use Rattle.tam_graph.specs.Graphs.{Code, Graph, kind_at, results_of, code_of, callee_of, callee_of_kind, node_where, is_param, is_ret}
use Rattle.tam_split.specs.GraphPartitions.{Partitions}
use Rattle.tam_world.specs.Worlds.{ActivationState, or_activation, activation_at, its_code, word_of, result_message}
use Rattle.tam_flow.specs.Journals.{State}
use Rattle.tam_flow.specs.Reached.{kind_of}
use Rattle.tam_flow.proofs.Gifts.{Leaves, leaves-firing}
use Rattle.tl0_code.specs.declared.instr.Instr.{Instr}
use Rattle.tl0_code.specs.declared.instr.Instr.TheVariants.{Falloc, Send, Ret, Ialloc, Ifetch, Istore}
use Rattle.tl0_code.specs.Machines.{Machine, Plain, slot, code_at, with_message, Fine, done_all}
use Rattle.tl0_keep.specs.Compiled.{slot_of, inlet_of}
use Rattle.tl0_keep.specs.ThreadNames.{inlet_at, thread_message}
use Rattle.tl0_keep.proofs.code.ThreadKinds.{ThreadKind, takes_messages}
use Rattle.tl0_keep.proofs.runs.Keeps.{Owed, Keeps, Fits, IsForMessages}
use Rattle.tl0_keep.proofs.code.CodeFacts.{CodeFacts}
use Rattle.tl0_keep.proofs.class_run.Later.{Follows, Brings}
use Rattle.tl0_keep.proofs.class_run.Frames.{AreAlike, alike-same}
use Rattle.tl0_keep.proofs.class_run.Whole.{keeps-later}
use Rattle.tl0_keep.proofs.class_run.Slots.{slots-same}
use Rattle.tl0_keep.proofs.class_run.Step.{OneOf, fired_state, IsFiring, HasCalls, HasPlaces, Does, words-before, follows, messages-fired}

module _ (g : Graph) (all : Partitions) (others : List (ℕ × ThreadKind)) (facts : CodeFacts g all) (m : Machine) (s : State) (due : List Owed)
    (keeps : Keeps g all m s others due) (i x : ℕ) (vs : List ℕ) (fires : IsFiring g s m i x vs) where
  abbrev c : Code
  c = its_code g s.world i

  -- the world stays
  stays : Leaves s.world s.world i ([], 0) []
  stays = leaves-firing g s.world i x (Invoke 0) []

  module _ (message : Message) where
    -- the message is sent
    abbrev sent_to : Machine
    sent_to = with_message m (thread_message g s.world message)

    on : Follows g all others s (fired_state s s.world (message ∷ []))
    on = follows g all others s s.world (message ∷ []) i ([], 0) [] stays

    brings : Brings g all others s (fired_state s s.world (message ∷ [])) on (OneOf i []) (OneOf i []) []
    brings = record {
      words = words-before g all others s s.world (message ∷ []) i ([], 0) [] stays;
      blocks = stays.new;
      inlets = λ j b k y new apart thread source. absurd new.1;
      then_cond = λ j y p a b e new. absurd new.1;
      else_cond = λ j y p a b e new. absurd new.1;
      then_switch = λ j y d k a e is among new. absurd new.1;
      else_switch = λ j y d k a e is among new. absurd new.1;
    }

    alike : AreAlike m sent_to
    alike = alike-same m sent_to refl refl refl

    -- and what is kept is kept
    pub keeps-sent : Fits g s.world message → Keeps g all sent_to (fired_state s s.world (message ∷ [])) others due
    keeps-sent fit =
        keeps-later g all others s (fired_state s s.world (message ∷ [])) on (OneOf i []) (OneOf i []) [] brings m sent_to alike due
        (record { fresh = λ j n t h. absurd h; given = λ j n t h. absurd h; once = tt }) keeps.no_fault
        (slots-same g all others facts m sent_to s (fired_state s s.world (message ∷ [])) on i ([], 0) [] stays [] due brings keeps keeps.frames.known
        fires.worded
        (λ j a. refl) (λ y h. absurd h) (λ y h. absurd h))
        (messages-fired g all others s s.world (message ∷ []) i ([], 0) [] stays m sent_to keeps.messages refl
        (λ o h. ⊎_elim (λ e. subst (Fits g s.world) e fit) (λ e. absurd e) h) refl refl refl)
        keeps

    does-sent : (ins : Instr) → Fits g s.world message → done_all Plain m i (ins ∷ []) ≡ Fine sent_to
        → Does g all others m i (ins ∷ []) (fired_state s s.world (message ∷ [])) due
    does-sent ins fit does = record { machine = sent_to; does = does; keeps = keeps-sent fit }

-- a small sum is its rest
small-sum : (a b n : ℕ) → a + b ≡ n → n < 1024 → (a + b) % 2 ^ 32 ≡ n
small-sum a b n e l = omega arith

-- the code's number that a machine keeps of an activation
code-there : (acts : List ActivationState) (i : ℕ) → slice_index (map (λ (a : ActivationState). a.code) acts) i ≡ (or_activation (slice_get acts i)).code
code-there [] i = refl
code-there (a ∷ acts) zero = refl
code-there (a ∷ acts) (suc i) = code-there acts i

module _ (g : Graph) (all : Partitions) (others : List (ℕ × ThreadKind)) (facts : CodeFacts g all) (m : Machine) (s : State) (due : List Owed)
    (keeps : Keeps g all m s others due) (i x : ℕ) (vs : List ℕ) (fires : IsFiring g s m i x vs) (calls : HasCalls g s)
    (places : HasPlaces g (its_code g s.world i)) where
  -- an inlet of an activation
  inlet-inside : (j y : ℕ) → (j == outside) ≡ false → inlet_at g s.world j y ≡ inlet_of g (its_code g s.world j) y
  inlet-inside j y h = rw (h, inlet_at) refl

  -- an inlet of this activation
  own-inlet : (y : ℕ) → inlet_at g s.world i y ≡ inlet_of g (its_code g s.world i) y
  own-inlet y = inlet-inside i y (calls.numbers i fires.there)

  -- it takes messages
  takes : (k : Kind) → kind_of g s.world i x ≡ k → takes_messages k ≡ true → IsForMessages g s.world i x
  takes k e t = (fires.there, ap takes_messages e ∙ t)

  module _ (d : ℕ) where
    pub does-call : kind_of g s.world i x ≡ Invoke d → Does g all others m i (Falloc d (inlet_of g (its_code g s.world i) x) ∷ [])
        (fired_state s s.world (Begin d i x ∷ [])) due
    does-call e = does-sent g all others facts m s due keeps i x vs fires (Begin d i x) (Falloc d (inlet_of g (its_code g s.world i) x))
        (takes (Invoke d) e refl, e)
        (ap (λ (y : ℕ). Fine (with_message m (Begin d i y))) (sym (own-inlet x)))

  pub does-alloc : (n u : ℕ) → kind_of g s.world i x ≡ Alloc n → slot m i (slot_of (its_code g s.world i) n) ≡ u
      → Does g all others m i (Ialloc (slot_of (its_code g s.world i) n) (inlet_of g (its_code g s.world i) x) ∷ [])
      (fired_state s s.world (Make u i x ∷ [])) due
  does-alloc n u e h = does-sent g all others facts m s due keeps i x vs fires (Make u i x)
      (Ialloc (slot_of (its_code g s.world i) n) (inlet_of g (its_code g s.world i) x))
      (takes (Alloc n) e refl) (ap (λ (y : ℕ). Fine (with_message m (Make y i (inlet_of g (its_code g s.world i) x)))) h
      ∙ ap (λ (y : ℕ). Fine (with_message m (Make u i y))) (sym (own-inlet x)))

  -- the site of an access
  site-there : site (code_at m i) x ≡ site (activation_at s.world i).code x
  site-there = ap (λ (q : ℕ). site q x) (ap (λ (l : List ℕ). slice_index l i) keeps.frames.codes ∙ code-there s.world.activations i)

  pub does-fetch : (a j u v : ℕ) → kind_of g s.world i x ≡ Fetch a j → slot m i (slot_of (its_code g s.world i) a) ≡ u
      → slot m i (slot_of (its_code g s.world i) j) ≡ v
      → Does g all others m i (Ifetch (slot_of (its_code g s.world i) a) (slot_of (its_code g s.world i) j) (inlet_of g (its_code g s.world i) x) x ∷ [])
      (fired_state s s.world (Ask_cell u v i x (site (activation_at s.world i).code x) ∷ [])) due
  does-fetch a j u v e h k = does-sent g all others facts m s due keeps i x vs fires (Ask_cell u v i x (site (activation_at s.world i).code x))
      (Ifetch (slot_of (its_code g s.world i) a) (slot_of (its_code g s.world i) j) (inlet_of g (its_code g s.world i) x) x) (takes (Fetch a j) e refl)
      (ap (λ (y : ℕ). Fine (with_message m (Ask_cell y (slot m i (slot_of (its_code g s.world i) j)) i (inlet_of g (its_code g s.world i) x)
      (site (code_at m i) x)))) h
      ∙ (ap (λ (y : ℕ). Fine (with_message m (Ask_cell u y i (inlet_of g (its_code g s.world i) x) (site (code_at m i) x)))) k
      ∙ (ap (λ (y : ℕ). Fine (with_message m (Ask_cell u v i y (site (code_at m i) x)))) (sym (own-inlet x))
      ∙ ap (λ (y : ℕ). Fine (with_message m (Ask_cell u v i (inlet_at g s.world i x) y))) site-there)))

  pub does-store : (a j b t u v : ℕ) → slot m i (slot_of (its_code g s.world i) a) ≡ t → slot m i (slot_of (its_code g s.world i) j) ≡ u
      → slot m i (slot_of (its_code g s.world i) b) ≡ v
      → Does g all others m i (Istore (slot_of (its_code g s.world i) a) (slot_of (its_code g s.world i) j) (slot_of (its_code g s.world i) b) x ∷ [])
      (fired_state s s.world (Put_cell t u v (site (activation_at s.world i).code x) ∷ [])) due
  does-store a j b t u v h k l = does-sent g all others facts m s due keeps i x vs fires (Put_cell t u v (site (activation_at s.world i).code x))
      (Istore (slot_of (its_code g s.world i) a) (slot_of (its_code g s.world i) j) (slot_of (its_code g s.world i) b) x) tt
      (ap (λ (y : ℕ). Fine (with_message m (Put_cell y (slot m i (slot_of (its_code g s.world i) j)) (slot m i (slot_of (its_code g s.world i) b))
      (site (code_at m i) x)))) h
      ∙ (ap (λ (y : ℕ). Fine (with_message m (Put_cell t y (slot m i (slot_of (its_code g s.world i) b)) (site (code_at m i) x)))) k
      ∙ (ap (λ (y : ℕ). Fine (with_message m (Put_cell t u y (site (code_at m i) x)))) l
      ∙ ap (λ (y : ℕ). Fine (with_message m (Put_cell t u v y))) site-there)))

  -- an arg goes to the param of the activation that the call began
  pub does-arg : (f k a v p : ℕ) → kind_of g s.world i x ≡ Arg f k a → word_of s.world i f ≡ p ∷ [] → slot m i (slot_of (its_code g s.world i) a) ≡ v
      → slot m i (slot_of (its_code g s.world i) f) ≡ p
      → Does g all others m i (Send (slot_of (its_code g s.world i) f) k (slot_of (its_code g s.world i) a) ∷ [])
      (fired_state s s.world (map (λ y. Carry p y v) (node_where (code_of g (callee_of (its_code g s.world i) f)) (is_param k)))) due
  does-arg f k a v p e word h l =
      let place = places.args x f k a e in
      let d = place.0 in
      let param = (facts.texts d place.2).param_at k place.3 in
      let y = param.0 in
      let answer = calls.answers i f d p place.1 word in
      let found : node_where (code_of g (callee_of (its_code g s.world i) f)) (is_param k) ≡ y ∷ [] =
      ap (λ (q : ℕ). node_where (code_of g q) (is_param k)) (ap callee_of_kind place.1) ∙ param.1 in
      let each : AllByRecursion (λ z. (z < length (code_of g d).nodes) × (is_param k (kind_at (code_of g d) z) ≡ true)) (y ∷ []) =
      subst (λ l. AllByRecursion (λ z. (z < length (code_of g d).nodes) × (is_param k (kind_at (code_of g d) z) ≡ true)) l) param.1
      (where-each (code_of g d) (is_param k)) in
      let kind : kind_of g s.world p y ≡ Param k = subst (λ q. kind_at (code_of g q) y ≡ Param k) (sym answer.1)
      (is-param k (kind_at (code_of g d) y) each.0.1) in
      let named : inlet_at g s.world p y ≡ k = inlet-inside p y (calls.numbers p answer.0) ∙ (ap (λ (q : ℕ). inlet_of g (code_of g q) y) answer.1 ∙ param.2) in
      subst (λ (ms : List Message). Does g all others m i (Send (slot_of (its_code g s.world i) f) k (slot_of (its_code g s.world i) a) ∷ [])
      (fired_state s s.world ms) due) (sym (ap (map (λ z. Carry p z v)) found))
      (does-sent g all others facts m s due keeps i x vs fires (Carry p y v) (Send (slot_of (its_code g s.world i) f) k (slot_of (its_code g s.world i) a))
      (inr (answer.0, ap takes_messages kind))
      (ap (λ (z : ℕ). Fine (with_message m (Carry z k (slot m i (slot_of (its_code g s.world i) a))))) l
      ∙ (ap (λ (z : ℕ). Fine (with_message m (Carry p k z))) h ∙ ap (λ (z : ℕ). Fine (with_message m (Carry p z v))) (sym named))))

  -- what a give sends, by the slots of its frame
  yields : (k a u q t : ℕ) → slot m i 0 ≡ u → (slot m i 1 + k) % 2 ^ 32 ≡ q → slot m i (slot_of (its_code g s.world i) a) ≡ t
      → done_all Plain m i (Ret k (slot_of (its_code g s.world i) a) ∷ []) ≡ Fine (with_message m (Carry u q t))
  yields k a u q t h l n = ap (λ (z : ℕ). Fine (with_message m (Carry z ((slot m i 1 + k) % 2 ^ 32) (slot m i (slot_of (its_code g s.world i) a))))) h
      ∙ (ap (λ (z : ℕ). Fine (with_message m (Carry u z (slot m i (slot_of (its_code g s.world i) a))))) l
      ∙ ap (λ (z : ℕ). Fine (with_message m (Carry u q z))) n)

  -- a result goes to the ret of the call, or outside
  pub does-give : (k a v : ℕ) → kind_of g s.world i x ≡ Yield k a → slot m i (slot_of (its_code g s.world i) a) ≡ v
      → Does g all others m i (Ret k (slot_of (its_code g s.world i) a) ∷ []) (fired_state s s.world (result_message g s.world i k v)) due
  does-give k a v e h = ⊎_elim root called (cases_eq i 0)
    where
      place : (k < results_of (its_code g s.world i)) × (k < 1024)
      place = places.gives x k a e

      root : i ≡ 0 → Does g all others m i (Ret k (slot_of (its_code g s.world i) a) ∷ []) (fired_state s s.world (result_message g s.world i k v)) due
      root z =
          let caller : (activation_at s.world i).caller ≡ outside = subst (λ l. (activation_at s.world l).caller ≡ outside) (sym z) calls.root in
          let main : (activation_at s.world i).code ≡ g.main = subst (λ l. (activation_at s.world l).code ≡ g.main) (sym z) calls.root_code in
          let one : slot m i 1 ≡ 0 = subst (λ l. slot m l 1 ≡ 0) (sym z) keeps.frames.root_inlet in
          let test : ((activation_at s.world i).caller == outside) ≡ true = ap (λ (q : ℕ). q == outside) caller ∙ self-eq outside in
          let messages : result_message g s.world i k v ≡ Carry outside k v ∷ [] = rw (test, result_message) refl in
          subst (λ (ms : List Message). Does g all others m i (Ret k (slot_of (its_code g s.world i) a) ∷ []) (fired_state s s.world ms) due) (sym messages)
          (does-sent g all others facts m s due keeps i x vs fires (Carry outside k v) (Ret k (slot_of (its_code g s.world i) a))
          (inl (refl, subst (λ q. k < results_of (code_of g q)) main place.0))
          (yields k a outside k v (keeps.frames.caller i fires.there ∙ caller) (small-sum (slot m i 1) k k (omega (arith, one)) (omega (arith, place.1))) h))

      called : (i ≡ 0 → ⊥) → Does g all others m i (Ret k (slot_of (its_code g s.world i) a) ∷ []) (fired_state s s.world (result_message g s.world i k v)) due
      called z =
          let later : 0 < i = omega (arith, z) in
          let j = (activation_at s.world i).caller in
          let call = (activation_at s.world i).call in
          let there = calls.callers i later fires.there in
          let test = calls.numbers j there in
          let ret = (facts.texts (activation_at s.world j).code (keeps.frames.known j there)).ret_at call (activation_at s.world i).code k
          (calls.calls i later fires.there) place.0 in
          let y = ret.0 in
          let each : AllByRecursion (λ n. (n < length (its_code g s.world j).nodes) × (is_ret call k (kind_of g s.world j n) ≡ true)) (y ∷ []) =
          subst (λ l. AllByRecursion (λ n. (n < length (its_code g s.world j).nodes) × (is_ret call k (kind_of g s.world j n) ≡ true)) l) ret.1
          (where-each (its_code g s.world j) (is_ret call k)) in
          let kind : kind_of g s.world j y ≡ Returned call k = is-ret call k (kind_of g s.world j y) each.0.1 in
          let low = (facts.texts (activation_at s.world j).code (keeps.frames.known j there)).inlet_small y each.0.0 (ap takes_messages kind) in
          let messages : result_message g s.world i k v ≡ Carry j y v ∷ [] = rw (test, result_message) (ap (map (λ n. Carry j n v)) ret.1) in
          let named : inlet_at g s.world j y ≡ inlet_of g (its_code g s.world j) y = inlet-inside j y test in
          let slot_one = keeps.frames.inlet i later fires.there in
          subst (λ (ms : List Message). Does g all others m i (Ret k (slot_of (its_code g s.world i) a) ∷ []) (fired_state s s.world ms) due) (sym messages)
          (does-sent g all others facts m s due keeps i x vs fires (Carry j y v) (Ret k (slot_of (its_code g s.world i) a))
          (inr (there, ap takes_messages kind))
          (yields k a j (inlet_of g (its_code g s.world j) y) v (keeps.frames.caller i fires.there)
          (small-sum (slot m i 1) k (inlet_of g (its_code g s.world j) y) (omega (arith, slot_one, ret.2)) low) h
          ∙ ap (λ (n : ℕ). Fine (with_message m (Carry j n v))) (sym named)))
