-- Where words on their way come from: an argument, a node that fired, or an ask that arrived; so one word at most is sent to each node.
-- That is so at the beginning, and after the run of a class.
use Rattle.std.proofs.Common.{◌≡◌, ℕ, suc, ◌^◌, ◌<◌, ◌≤◌, true, false, ◌==◌, List, [], ◌∷◌, ◌++◌, flat_map, zip, Some, length, slice_get, unwrap_or}
use Rattle.std.proofs.Common.{refl, sym, ap, ◌∙◌, arith, subst, inl, inr, ◌⊎◌, true≢false}
use Rattle.std.proofs.lemmas.List.{length-append, length-map}
use Rattle.std.specs.List.{AllByRecursion}
use Rattle.tam_word.specs.Lists.{below, has}
use Rattle.tam_word.proofs.Each.{all-more, all-append, all-map, all-flat, all-at_place, get-left}
use Rattle.tam_word.proofs.Sifted.{first_of-one}
use Rattle.tam_graph.specs.declared.kind.Kind.TheVariants.{Param}
use Rattle.tam_graph.specs.Graphs.{Graph, code_of, kind_at, node_where, node_numbers, is_param, is_split}
use Rattle.tam_graph.specs.Accepted.{IsAccepted}
use Rattle.tam_split.specs.Blocks.{BlockGraph, vertex_at}
use Rattle.tam_split.specs.GraphPartitions.{Partitions, are_valid}
use Rattle.tam_fire.specs.FiringRules.{Path, node_of}
use Rattle.tam_msgs.specs.declared.message.Message.{Message}
use Rattle.tam_msgs.specs.declared.message.Message.TheVariants.{Word as Carry, Frame as Begin, Cells as Make, Fetch as Ask_cell, Store as Put_cell}
use Rattle.tam_msgs.specs.Messages.{outside}
use Rattle.tam_istr.specs.Cells.{Empty}
use Rattle.tam_world.specs.Worlds.{World, Effect, its_code, word_of, opening, argument_message}
use Rattle.tam_flow.specs.Journals.{State, Run, initial, has_run, class_fired, block_of_act, after_event}
use Rattle.tam_flow.specs.Told.{IsNumber, path_of}
use Rattle.tam_flow.specs.Reached.{IsThere, kind_of, Has, HasArrived, cell_at}
use Rattle.tam_flow.proofs.Growing.{Grows}
use Rattle.tam_flow.proofs.Justified.{IsMessage, IsSoundWorld}
use Rattle.tam_flow.proofs.CellChanges.{none-some}
use Rattle.tam_flow.proofs.Deliveries.{IsSoundEffect, not-outside, some-below}
use Rattle.tam_flow.proofs.DeliveryChanges.{arrays-run}
use Rattle.tam_flow.proofs.Nodes.{where-each, is-param}
use Rattle.tam_flow.proofs.Pairs.{Pairs, pairs-append, pairs-flat, fires-once}
use Rattle.tam_flow.proofs.Senders.{asks, IsSentBy}
use Rattle.tam_flow.proofs.SoundStates.{IsSoundState, IsRunnable, run-effect, counted, below-counted}
use Rattle.tam_flow.proofs.SentOnce.{HasFired, IsOnceState, fired-later, nil-cons}
use Rattle.tam_flow.proofs.DeliveredOnce.{one-wish}
use Rattle.tam_flow.proofs.RunSteps.{run-kept, run-size, run-more, run_done, fires-now, fires-first}
use Rattle.tam_flow.proofs.WordSenders.{IsFor, WordsApart, PathsDiffer, differ-later, SendsTo, sends-once, sends-later, param-eq, param-ret}
use Rattle.tam_flow.proofs.WordSenders.{few-pairs, for-eq, IsSentIn}
use Rattle.tam_flow.proofs.WordSenders.{IsWordRun, words-kept}
use Rattle.tam_flow.proofs.Givers.{is_received}
use Rattle.tam_flow.proofs.Kept.{word-act}
use Rattle.tam_flow.proofs.ComingWords.{split-received, AreKept, coming-kept}

-- the message asks for a word for node x of activation f
abbrev pub IsAskOf : ℕ → ℕ → Message → Type 0
IsAskOf f x (Carry e y u) = ⊥
IsAskOf f x (Begin c e y) = (e ≡ f) × (y ≡ x)
IsAskOf f x (Make n e y) = (e ≡ f) × (y ≡ x)
IsAskOf f x (Ask_cell a j e y t) = (e ≡ f) × (y ≡ x)
IsAskOf f x (Put_cell a j u t) = ⊥

-- such a message has arrived
abbrev pub HasAsked : State → ℕ → ℕ → Type 0
HasAsked s f x = (n : ℕ) × (m : Message) × (slice_get s.sent n ≡ Some m) × (has s.arrived n ≡ true) × IsAskOf f x m

-- where a word for node x of activation f comes from: it is an argument, a node that fired sent it, or it answers an ask
abbrev pub WordCause : Graph → Partitions → State → ℕ → ℕ → Type 0
WordCause g all s f x =
    ((k : ℕ) × (kind_of g s.world f x ≡ Param k) × (path_of s.world f ≡ []))
    ⊎ (((i y : ℕ) × HasFired g all s i y × SendsTo g s.world i y f x)
    ⊎ ((is_split (kind_of g s.world f x) ≡ true) × HasAsked s f x))

-- a word that is sent to a node comes from there
abbrev pub IsCaused : Graph → Partitions → State → Message → Type 0
IsCaused g all s m = (f x : ℕ) → (f == outside) ≡ false → IsFor f x m → IsThere s.world f × WordCause g all s f x

-- two readers are of two nodes
abbrev pub ReadersApart : ℕ × ℕ → ℕ × ℕ → Type 0
ReadersApart r q = r.0 ≡ q.0 → r.1 ≡ q.1 → ⊥

-- a reader of cell j of array a has asked for it, and was sent no word yet
abbrev pub IsWaiting : State → ℕ → ℕ → ℕ × ℕ → Type 0
IsWaiting s a j r = (n t : ℕ) × (slice_get s.sent n ≡ Some (Ask_cell a j r.0 r.1 t)) × (has s.arrived n ≡ true)
    × AllByRecursion (λ m. IsFor r.0 r.1 m → ⊥) s.sent

-- the readers of a cell
abbrev pub WaitHere : State → Type 0
WaitHere s = (a j : ℕ) (rs : List (ℕ × ℕ)) → cell_at s.world a j ≡ Some (Empty rs) → Pairs ReadersApart rs × AllByRecursion (IsWaiting s a j) rs

-- the words on their way, and those that arrived
pub record IsWordState (g : Graph) (all : Partitions) (s : State) : Type 0 where
  pub before : (n : ℕ) → has s.arrived n ≡ true → n < length s.sent
  pub apart : Pairs WordsApart s.sent
  pub causes : AllByRecursion (IsCaused g all s) s.sent
  pub words : (f x u : ℕ) → Has s f x u → is_received (kind_of g s.world f x) ≡ true → HasArrived s (Carry f x u)
  pub carried : (f x u : ℕ) → HasArrived s (Carry f x u) → (f == outside) ≡ false → Has s f x u
  pub waits : WaitHere s

-- ---- asks

-- an ask is a wish
ask-asks : (f x : ℕ) (m : Message) → IsAskOf f x m → asks m ≡ true
ask-asks f x (Carry e y u) h = absurd h
ask-asks f x (Begin c e y) h = refl
ask-asks f x (Make n e y) h = refl
ask-asks f x (Ask_cell a j e y t) h = refl
ask-asks f x (Put_cell a j u t) h = absurd h

-- its sender is the node that gets the answer
ask-by : (g : Graph) (args : List ℕ) (w : World) (f x : ℕ) (m : Message) (i y : ℕ) → IsAskOf f x m → IsSentBy g args w m i y → (f ≡ i) × (x ≡ y)
ask-by g args w f x (Carry e z u) i y h k = absurd h
ask-by g args w f x (Begin c e z) i y h k = (sym h.0 ∙ k.0, sym h.1 ∙ k.1)
ask-by g args w f x (Make n e z) i y h k = (sym h.0 ∙ k.0, sym h.1 ∙ k.1)
ask-by g args w f x (Ask_cell a j e z t) i y h k = (sym h.0 ∙ k.0, sym h.1 ∙ k.1)
ask-by g args w f x (Put_cell a j u t) i y h k = absurd h

-- what a node of a path does its activation's node does
pub number-kind : (g : Graph) (args : List ℕ) (w : World) → IsSoundWorld g args w → (q : Path) (f x : ℕ) → IsNumber w q f → kind_of g w f x ≡ node_of g q x
number-kind g args w sound q f x h = sym (ap (λ n. kind_at (code_of g n) x) (sound.path_codes f h.0)) ∙ ap (λ p. node_of g p x) h.1

-- who asks is there, and is a node that is cut
pub ask-kind : (g : Graph) (args : List ℕ) (w : World) → IsSoundWorld g args w → (f x : ℕ) (m : Message) → IsAskOf f x m → IsMessage g args w m
    → IsThere w f × (is_split (kind_of g w f x) ≡ true)
ask-kind g args w sound f x (Carry e y u) h k = absurd h
ask-kind g args w sound f x (Begin c e y) h k =
    let r = ap is_split (number-kind g args w sound k.0 e y k.1 ∙ k.2) in
    subst (λ z. IsThere w f × (is_split (kind_of g w f z) ≡ true)) h.1 (subst (λ z. IsThere w z × (is_split (kind_of g w z y) ≡ true)) h.0 (k.1.0, r))
ask-kind g args w sound f x (Make n e y) h k =
    let r = ap is_split (number-kind g args w sound k.0 e y k.3 ∙ k.4) in
    subst (λ z. IsThere w f × (is_split (kind_of g w f z) ≡ true)) h.1 (subst (λ z. IsThere w z × (is_split (kind_of g w z y) ≡ true)) h.0 (k.3.0, r))
ask-kind g args w sound f x (Ask_cell a j e y t) h k =
    let r = ap is_split (number-kind g args w sound k.0.q e y k.0.number ∙ k.0.fetches) in
    subst (λ z. IsThere w f × (is_split (kind_of g w f z) ≡ true)) h.1 (subst (λ z. IsThere w z × (is_split (kind_of g w z y) ≡ true)) h.0 (k.0.number.0, r))
ask-kind g args w sound f x (Put_cell a j u t) h k = absurd h

-- who sends to a node sends to no node that is cut
pub sends-uncut : (g : Graph) (w : World) (i y f x : ℕ) → SendsTo g w i y f x → is_split (kind_of g w f x) ≡ true → ⊥
sends-uncut g w i y f x (inl h) d = true≢false (sym d ∙ ap is_split h.is_param)
sends-uncut g w i y f x (inr h) d = true≢false (sym d ∙ ap is_split h.is_ret)

-- nor to a param of the root
pub sends-root : (g : Graph) (w : World) (i y f x k : ℕ) → SendsTo g w i y f x → kind_of g w f x ≡ Param k → path_of w f ≡ [] → ⊥
sends-root g w i y f x k (inl h) p e = nil-cons (sym e ∙ h.path)
sends-root g w i y f x k (inr h) p e = param-ret (sym p ∙ h.is_ret)

-- what has arrived was sent before, where further messages are sent
pub arrived-sent : (sent more : List Message) (arrived : List ℕ) → ((n : ℕ) → has arrived n ≡ true → n < length sent) → (n : ℕ) (m : Message)
    → slice_get (sent ++ more) n ≡ Some m → has arrived n ≡ true → slice_get sent n ≡ Some m
arrived-sent sent more arrived before n m e h = sym (get-left sent more n (before n h)) ∙ e

module _ (g : Graph) (args : List ℕ) (accepted : IsAccepted g) (all : Partitions) (s : State) (sound : IsSoundState g args s)
    (once : IsOnceState g args all s) where
  -- two asks of one node are one
  pub one-ask : are_valid g all ≡ true → (f x m n : ℕ) (p q : Message) → slice_get s.sent m ≡ Some p → slice_get s.sent n ≡ Some q → IsAskOf f x p
      → IsAskOf f x q
      → m ≡ n
  one-ask valid f x m n p q e d h k =
      one-wish g args accepted all valid s sound once m n p q e d (ask-asks f x p h) (ask-asks f x q k) (λ i y j z a b.
      let r = ask-by g args s.world f x p i y h a in let t = ask-by g args s.world f x q j z k b in (sym r.0 ∙ t.0, sym r.1 ∙ t.1))

  -- a node to which a word is sent takes it
  pub cause-takes : (f x : ℕ) → WordCause g all s f x → is_received (kind_of g s.world f x) ≡ true
  cause-takes f x (inl h) = ap is_received h.1
  cause-takes f x (inr (inl (i, y, h, inl k))) = ap is_received k.is_param
  cause-takes f x (inr (inl (i, y, h, inr k))) = ap is_received k.is_ret
  cause-takes f x (inr (inr h)) = split-received (kind_of g s.world f x) h.0

  -- where a word came from it came from later
  pub cause-later : (v : State) → Grows s.world v.world → ((n : ℕ) (m : Message) → slice_get s.sent n ≡ Some m → slice_get v.sent n ≡ Some m)
      → ((n : ℕ) → has s.arrived n ≡ true → has v.arrived n ≡ true) → ((i b c : ℕ) → has_run s i b c ≡ true → has_run v i b c ≡ true)
      → (f x : ℕ) → IsThere s.world f → WordCause g all s f x → WordCause g all v f x
  cause-later v grows sent arrived more f x t (inl h) = inl (h.0, ap (λ n. kind_at (code_of g n) x) (grows.code f t) ∙ h.1, grows.path f t ∙ h.2)
  cause-later v grows sent arrived more f x t (inr (inl h)) = inr
      (inl (h.0, h.1, fired-later once v grows more h.0 h.1 h.2, sends-later g s.world v.world grows h.0 h.1 f x h.3))
  cause-later v grows sent arrived more f x t (inr (inr h)) = inr
      (inr (ap (λ n. is_split (kind_at (code_of g n) x)) (grows.code f t) ∙ h.0, (h.1.0, h.1.1, sent h.1.0 h.1.1 h.1.2, arrived h.1.0 h.1.3, h.1.4)))

  -- and so with each message
  pub caused-later : (v : State) → Grows s.world v.world → ((n : ℕ) (m : Message) → slice_get s.sent n ≡ Some m → slice_get v.sent n ≡ Some m)
      → ((n : ℕ) → has s.arrived n ≡ true → has v.arrived n ≡ true) → ((i b c : ℕ) → has_run s i b c ≡ true → has_run v i b c ≡ true)
      → (m : Message) → IsCaused g all s m → IsCaused g all v m
  caused-later v grows sent arrived more m h f x inside e =
      let r = h f x inside e in (grows.there f r.0, cause-later v grows sent arrived more f x r.0 r.1)

-- ---- the beginning

module _ (g : Graph) (args : List ℕ) where
  -- arguments at places from k on
  from-place : (k : ℕ) (xs : List ℕ) → AllByRecursion (λ e. k ≤ e.0) (zip (counted k (length xs)) xs)
  from-place k [] = tt
  from-place k (x ∷ xs) =
      (omega arith, all-more (λ e. suc k ≤ e.0) (λ e. k ≤ e.0) (λ e l. omega (arith, l)) (zip (counted (suc k) (length xs)) xs) (from-place (suc k) xs))

  -- each has a place of its own
  places-apart : (k : ℕ) (xs : List ℕ) → Pairs (λ e d. e.0 ≡ d.0 → ⊥) (zip (counted k (length xs)) xs)
  places-apart k [] = tt
  places-apart k (x ∷ xs) = (
    all-more (λ e. suc k ≤ e.0) (λ d. k ≡ d.0 → ⊥) (λ d l q. absurd (omega (arith, l, q))) (zip (counted (suc k) (length xs)) xs) (from-place (suc k) xs),
    places-apart (suc k) xs,
  )

  -- what is found by pairs
  pairs-more : {X : Type 0} (R Q : X → X → Type 0) → ((x y : X) → R x y → Q x y) → (xs : List X) → Pairs R xs → Pairs Q xs
  pairs-more R Q f [] h = tt
  pairs-more R Q f (x ∷ xs) h = (all-more (R x) (Q x) (f x) xs h.0, pairs-more R Q f xs h.1)

  -- an argument's message is for a param of its place
  argument-for : (e : ℕ × ℕ) → AllByRecursion (λ m. (f x : ℕ) → IsFor f x m → (f ≡ 0) × (kind_at (code_of g g.main) x ≡ Param e.0)) (argument_message g e)
  argument-for e =
      all-map (λ m. (f x : ℕ) → IsFor f x m → (f ≡ 0) × (kind_at (code_of g g.main) x ≡ Param e.0)) (λ x. Carry 0 x e.1)
      (node_where (code_of g g.main) (is_param e.0))
      (all-more (λ x. (x < length (code_of g g.main).nodes) × (is_param e.0 (kind_at (code_of g g.main) x) ≡ true))
      (λ z. (f x : ℕ) → IsFor f x (Carry 0 z e.1) → (f ≡ 0) × (kind_at (code_of g g.main) x ≡ Param e.0))
      (λ z k f x q. (sym (for-eq q.1).0, subst (λ n. kind_at (code_of g g.main) n ≡ Param e.0) (for-eq q.1).1 (is-param e.0 _ k.1)))
      (node_where (code_of g g.main) (is_param e.0)) (where-each (code_of g g.main) (is_param e.0)))

  -- one at most
  argument-few : (e : ℕ × ℕ) → Pairs WordsApart (argument_message g e)
  argument-few e =
      let l = first_of-one (λ x. is_param e.0 (kind_at (code_of g g.main) x)) (node_numbers (code_of g g.main)) in
      few-pairs WordsApart (argument_message g e) (omega (arith, length-map (node_where (code_of g g.main) (is_param e.0)) (λ x. Carry 0 x e.1), l))

  -- two arguments go to two params
  arguments-apart : (e d : ℕ × ℕ) → (e.0 ≡ d.0 → ⊥) → AllByRecursion (λ m. AllByRecursion (WordsApart m) (argument_message g d)) (argument_message g e)
  arguments-apart e d h =
      all-more (λ m. (f x : ℕ) → IsFor f x m → (f ≡ 0) × (kind_at (code_of g g.main) x ≡ Param e.0)) (λ m. AllByRecursion (WordsApart m) (argument_message g d))
      (λ m p. all-more (λ m. (f x : ℕ) → IsFor f x m → (f ≡ 0) × (kind_at (code_of g g.main) x ≡ Param d.0)) (WordsApart m)
      (λ n q f x inside a b. h (param-eq (sym (p f x a).1 ∙ (q f x b).1))) (argument_message g d) (argument-for d)) (argument_message g e) (argument-for e)

  -- at the beginning the arguments alone are on their way
  pub words-initial : (all : Partitions) → IsWordState g all (initial g args)
  words-initial all = record {
    before = λ n h. absurd (true≢false (sym h));
    apart = subst (λ l. Pairs WordsApart (flat_map (argument_message g) (zip l args))) (sym (below-counted (length args)))
        (pairs-flat WordsApart (argument_message g) (zip (counted 0 (length args)) args) (each (zip (counted 0 (length args)) args))
        (pairs-more (λ e d. e.0 ≡ d.0 → ⊥) (λ e d. AllByRecursion (λ m. AllByRecursion (WordsApart m) (argument_message g d)) (argument_message g e))
        arguments-apart (zip (counted 0 (length args)) args) (places-apart 0 args)));
    causes = all-flat (IsCaused g all (initial g args)) (argument_message g) (zip (below (length args)) args) (caused (zip (below (length args)) args));
    words = λ f x u h takes. absurd (none-has f x u (word-act (opening g) f x u h) h);
    carried = λ f x u h inside. absurd (true≢false (sym h.2));
    waits = λ a j rs e. absurd (none-some e);
  }
    where
      each : (es : List (ℕ × ℕ)) → AllByRecursion (λ e. Pairs WordsApart (argument_message g e)) es
      each [] = tt
      each (e ∷ es) = (argument-few e, each es)

      caused : (es : List (ℕ × ℕ)) → AllByRecursion (λ e. AllByRecursion (IsCaused g all (initial g args)) (argument_message g e)) es
      caused [] = tt
      caused (e ∷ es) = (
        all-more (λ m. (f x : ℕ) → IsFor f x m → (f ≡ 0) × (kind_at (code_of g g.main) x ≡ Param e.0)) (IsCaused g all (initial g args))
            (λ m k f x inside q. at_root f x e.0 (k f x q).0 (k f x q).1) (argument_message g e) (argument-for e),
        caused es,
      )
        where
          at_root : (f x k : ℕ) → f ≡ 0 → kind_at (code_of g g.main) x ≡ Param k
              → IsThere (opening g) f × WordCause g all (initial g args) f x
          at_root f x k p q = subst (λ n. IsThere (opening g) n × WordCause g all (initial g args) n x) (sym p)
              (omega arith, inl (k, q, refl))

      none-has : (f x u : ℕ) → IsThere (opening g) f → word_of (opening g) f x ≡ u ∷ [] → ⊥
      none-has f x u t h = let e : f ≡ 0 = omega (arith, t) in nothing (subst (λ n. word_of (opening g) n x ≡ u ∷ []) e h)
        where
          nothing : {v : ℕ} → [] ≡ v ∷ [] → ⊥
          nothing r = cc

-- ---- a run

module _ (g : Graph) (args : List ℕ) (accepted : IsAccepted g) (all : Partitions) (valid : are_valid g all ≡ true) (s : State)
    (sound : IsSoundState g args s) (once : IsOnceState g args all s) (done : IsWordState g all s) (few : length s.world.activations < 2 ^ 32)
    (i b c : ℕ) (run : IsRunnable g all s i b c) where
  -- what the run does to the words on their way
  pub words-run : IsWordState g all (after_event g all s (Run i b c))
  words-run = record {
    before = λ n h. let l = done.before n h in let e = length-append s.sent new.sends in omega (arith, l, e);
    apart = pairs-append WordsApart s.sent new.sends done.apart ran.apart
        (all-more (IsCaused g all s) (λ m. AllByRecursion (WordsApart m) new.sends)
        (λ m k. all-more (λ n. (f x : ℕ) → (f == outside) ≡ false → IsFor f x n → IsSentIn g block new.world i places f x) (WordsApart m)
        (λ n r f x inside p q. meet f x (k f x inside p) (r f x inside q)) new.sends ran.by) s.sent done.causes);
    causes = all-append (IsCaused g all v) s.sent new.sends
        (all-more (IsCaused g all s) (IsCaused g all v) (caused-later g args accepted all s sound once v effect.grows sent (λ n h. h)
        (run-more g args accepted all valid s sound once i b c run)) s.sent done.causes)
        (all-more (λ n. (f x : ℕ) → (f == outside) ≡ false → IsFor f x n → IsSentIn g block new.world i places f x) (IsCaused g all v)
        (λ n r f x inside q. sends f x (r f x inside q)) new.sends ran.by);
    words = λ f x u h takes. still (Carry f x u) (word f x u h takes);
    carried = λ f x u h inside.
        let r = done.carried f x u (back (Carry f x u) h) inside in
        let t = word-act s.world f x u r in
        kept f x t (cause-takes g args accepted all s sound once f x (at f x u (back (Carry f x u) h) inside)) ∙ r;
    waits = λ a j rs e.
        let old = done.waits a j rs (subst (λ l. slice_get (unwrap_or (slice_get l a) []) j ≡ Some (Empty rs)) (arrays-run g all s i b c) e) in
        (old.0, all-more (IsWaiting s a j) (IsWaiting v a j) (λ r k. wait a j r k) rs old.1);
  }
    where
      v : State
      v = after_event g all s (Run i b c)

      block : BlockGraph
      block = block_of_act g s i b

      new : Effect
      new = class_fired g all s i b c

      places : List ℕ
      places = run_done g all s i b c

      effect : IsSoundEffect g args s.world (class_fired g all s i b c)
      effect = run-effect g args accepted all s i b c valid sound run

      ran : IsWordRun g (block_of_act g s i b) i (run_done g all s i b c) (class_fired g all s i b c)
      ran = run-kept g args accepted all valid s sound once i b c run (IsWordRun g (block_of_act g s i b) i)
          (words-kept g args accepted s.world sound.world once.paths_differ i run.there (block_of_act g s i b) (fires-once (its_code g s.world i) b))
          (record { apart = tt; by = tt })

      kept : AreKept g s.world (class_fired g all s i b c).world
      kept = run-kept g args accepted all valid s sound once i b c run (λ done e. AreKept g s.world e.world)
          (coming-kept g args accepted s.world i run.there (block_of_act g s i b)) (λ f x t takes. refl)

      sent : (n : ℕ) (m : Message) → slice_get s.sent n ≡ Some m → slice_get (s.sent ++ (class_fired g all s i b c).sends) n ≡ Some m
      sent n m e = get-left s.sent (class_fired g all s i b c).sends n (some-below s.sent n e) ∙ e

      differ : PathsDiffer (class_fired g all s i b c).world
      differ = differ-later s.world (class_fired g all s i b c).world effect.grows (run-size g args accepted all valid s sound once i b c run) once.paths_differ

      back : (m : Message) → HasArrived (after_event g all s (Run i b c)) m → HasArrived s m
      back m h = (h.0, arrived-sent s.sent (class_fired g all s i b c).sends s.arrived done.before h.0 m h.1 h.2, h.2)

      still : (m : Message) → HasArrived s m → HasArrived (after_event g all s (Run i b c)) m
      still m h = (h.0, sent h.0 m h.1, h.2)

      at : (f x u : ℕ) → HasArrived s (Carry f x u) → (f == outside) ≡ false → WordCause g all s f x
      at f x u h inside = (all-at_place (IsCaused g all s) s.sent h.0 (Carry f x u) done.causes h.1 f x inside (u, refl)).1

      word : (f x u : ℕ) → word_of (class_fired g all s i b c).world f x ≡ u ∷ [] → is_received (kind_of g (class_fired g all s i b c).world f x) ≡ true
          → HasArrived s (Carry f x u)
      word f x u h takes =
          let t : IsThere s.world f = subst (λ n. f < n) (run-size g args accepted all valid s sound once i b c run)
          (word-act (class_fired g all s i b c).world f x u h) in
          let k : is_received (kind_of g s.world f x) ≡ true = subst (λ n. is_received (kind_at (code_of g n) x) ≡ true) (effect.grows.code f t) takes in
          done.words f x u (sym (kept f x t k) ∙ h) k

      sends : (f x : ℕ) → IsSentIn g (block_of_act g s i b) (class_fired g all s i b c).world i (run_done g all s i b c) f x
          → IsThere (class_fired g all s i b c).world f × WordCause g all (after_event g all s (Run i b c)) f x
      sends f x h = (
        there h.4,
        inr (inl (
          i,
          (vertex_at (block_of_act g s i b) h.0).node,
          fires-now g args accepted all valid s sound once i b c run h.0 h.1
              h.2 h.3,
          h.4,
        )),
      )
        where
          there : SendsTo g (class_fired g all s i b c).world i (vertex_at (block_of_act g s i b) h.0).node f x → IsThere (class_fired g all s i b c).world f
          there (inl k) = k.there
          there (inr k) = k.there

      meet : (f x : ℕ) → IsThere s.world f × WordCause g all s f x
          → IsSentIn g (block_of_act g s i b) (class_fired g all s i b c).world i (run_done g all s i b c) f x → ⊥
      meet f x (t, inl h) k =
          sends-root g (class_fired g all s i b c).world i (vertex_at (block_of_act g s i b) k.0).node f x h.0 k.4
          (ap (λ n. kind_at (code_of g n) x) (effect.grows.code f t) ∙ h.1) (effect.grows.path f t ∙ h.2)
      meet f x (t, inr (inl h)) k =
          let node : ℕ = (vertex_at (block_of_act g s i b) k.0).node in
          let same = sends-once g accepted (class_fired g all s i b c).world effect.world.codes differ h.0 h.1 i (vertex_at (block_of_act g s i b) k.0).node f x
          (sends-later g s.world (class_fired g all s i b c).world effect.grows h.0 h.1 f x h.3) k.4 in
          fires-first g args accepted all valid s sound once i b c run k.0 k.1 k.2 k.3
          (subst (λ n. HasFired g all s n (vertex_at (block_of_act g s i b) k.0).node) same.0 (subst (λ n. HasFired g all s h.0 n) same.1 h.2))
      meet f x (t, inr (inr h)) k =
          sends-uncut g (class_fired g all s i b c).world i (vertex_at (block_of_act g s i b) k.0).node f x k.4
          (ap (λ n. is_split (kind_at (code_of g n) x)) (effect.grows.code f t) ∙ h.0)

      -- who waits is sent nothing by a run
      unsent : (f x : ℕ) → IsThere s.world f → is_split (kind_of g s.world f x) ≡ true → (f == outside) ≡ false
          → AllByRecursion (λ m. IsFor f x m → ⊥) (class_fired g all s i b c).sends
      unsent f x t split inside =
          all-more (λ n. (e z : ℕ) → (e == outside) ≡ false → IsFor e z n
          → IsSentIn g (block_of_act g s i b) (class_fired g all s i b c).world i (run_done g all s i b c) e z)
          (λ m. IsFor f x m → ⊥)
          (λ n r q. let k = r f x inside q in sends-uncut g (class_fired g all s i b c).world i (vertex_at (block_of_act g s i b) k.0).node f x k.4
          (ap (λ n. is_split (kind_at (code_of g n) x)) (effect.grows.code f t) ∙ split)) (class_fired g all s i b c).sends ran.by

      wait : (a j : ℕ) (r : ℕ × ℕ) → IsWaiting s a j r → IsWaiting (after_event g all s (Run i b c)) a j r
      wait a j r k =
          let reason = all-at_place (IsMessage g args s.world) s.sent k.0 (Ask_cell a j r.0 r.1 k.1) sound.sent k.2 in
          let kind = ask-kind g args s.world sound.world r.0 r.1 (Ask_cell a j r.0 r.1 k.1) (refl, refl) reason in (
            k.0,
            k.1,
            sent k.0 (Ask_cell a j r.0 r.1 k.1) k.2,
            k.3,
            all-append (λ m. IsFor r.0 r.1 m → ⊥) s.sent (class_fired g all s i b c).sends k.4
                (unsent r.0 r.1 kind.0 kind.1 (not-outside g args r.0 (length s.world.activations) kind.0 few)),
          )
