-- Where each word comes from, and that what ran had the words that it takes.
use Rattle.std.proofs.Common.{◌≡◌, ℕ, true, List, [], ◌∷◌, refl, sym, ap, ◌∙◌, subst, ⊎_elim, true≢false}
use Rattle.tam_msgs.specs.declared.message.Message.TheVariants.{Word as Carry}
use Rattle.tam_graph.specs.declared.kind.Kind.{Kind}
use Rattle.tam_graph.specs.declared.kind.Kind.TheVariants.{Param, Const, Op as Operate, Seq, Call, Ret, Alloc, Fetch, Switch, Leave}
use Rattle.tam_graph.specs.Graphs.{Graph, operands_of, is_outlet}
use Rattle.tam_split.specs.GraphPartitions.{Partitions}
use Rattle.tam_split.proofs.Firers.{is_inner}
use Rattle.tam_world.specs.Worlds.{its_code}
use Rattle.tam_flow.specs.Journals.{State, Event, state_after}
use Rattle.tam_flow.specs.JournalLaws.{IsJournal}
use Rattle.tam_flow.specs.Reached.{kind_of, Ran, Has, HaveSome, HasArrived, WordSource, WordsStand}
use Rattle.tam_flow.proofs.Suiting.{words-there, words-suit}
use Rattle.tam_flow.proofs.SoundStates.{IsSoundState, sound-journal}
use Rattle.tam_flow.proofs.SentOnce.{IsOnceState, HasFired}
use Rattle.tam_flow.proofs.DeliveredOnce.{once-journal}
use Rattle.tam_flow.proofs.FiringReasons.{HaveThese}
use Rattle.tam_flow.proofs.Gifts.{gift}
use Rattle.tam_flow.proofs.Givers.{is_received, GivenTo, Itself, Inwards, Outwards, given-to}
use Rattle.tam_flow.proofs.Kept.{IsGift}
use Rattle.tam_flow.proofs.KeptRuns.{IsKeptState}
use Rattle.tam_flow.proofs.KeptDeliveries.{OneWordSent}
use Rattle.tam_flow.proofs.KeptJournals.{kept-journal}
use Rattle.tam_flow.proofs.Running.{ran-fired}
use Rattle.tam_flow.proofs.FiredOutlets.{fired-ran}

-- nodes that have these words have some
have-some : (s : State) (i : ℕ) (xs vs : List ℕ) → HaveThese s.world i xs vs → HaveSome s i xs
have-some s i [] vs h = tt
have-some s i (x ∷ xs) [] h = absurd h
have-some s i (x ∷ xs) (v ∷ vs) h = ((v, h.0), have-some s i xs vs h.1)

module _ (g : Graph) (all : Partitions) (s : State) (i x u : ℕ) where
  -- a word that a message carries came by it
  received-source : (k : Kind) → is_received k ≡ true → HasArrived s (Carry i x u) → WordSource g all s i x u k
  received-source (Param k) r h = h
  received-source (Ret f k) r h = h
  received-source (Call c) r h = h
  received-source (Alloc n) r h = h
  received-source (Fetch a j) r h = h
  received-source k r h = absurd (true≢false (sym r))

  -- a word that an inner node gives is what its operands' words make
  inner-source : (k : Kind) (vs : List ℕ) → is_inner k ≡ true → HaveThese s.world i (operands_of (its_code g s.world i) k) vs
      → u ≡ (gift (its_code g s.world i) x k vs).1 → WordSource g all s i x u k
  inner-source (Const v) [] r h e = e
  inner-source (Const v) (t ∷ ts) r h e = absurd h
  inner-source (Operate o l m) [] r h e = absurd h
  inner-source (Operate o l m) (a ∷ []) r h e = absurd h.1
  inner-source (Operate o l m) (a ∷ b ∷ []) r h e = (a, b, h.0, h.1.0, e)
  inner-source (Operate o l m) (a ∷ b ∷ t ∷ ts) r h e = absurd h.1.1
  inner-source (Seq l m) [] r h e = absurd h
  inner-source (Seq l m) (a ∷ []) r h e = absurd h.1
  inner-source (Seq l m) (a ∷ b ∷ []) r h e = (subst (λ z. Has s i l z) (sym e) h.0, (b, h.1.0))
  inner-source (Seq l m) (a ∷ b ∷ t ∷ ts) r h e = absurd h.1.1
  inner-source k vs r h e = absurd (true≢false (sym r))

module _ (g : Graph) (all : Partitions) (args : List ℕ) (events : List Event) (journal : IsJournal g all args events)
    (once : OneWordSent (state_after g all args events)) where
  -- the state behind the journal
  abbrev s : State
  s = state_after g all args events

  -- it has its reasons
  sound : IsSoundState g args (state_after g all args events)
  sound = sound-journal g all args events journal

  -- each wish was sent once
  wishes : IsOnceState g args all (state_after g all args events)
  wishes = once-journal g all args events journal

  -- it keeps firings, messages and words
  state : IsKeptState g all (state_after g all args events)
  state = kept-journal g all args events journal once

  -- an outlet that fired has run
  outlet-ran : (i y : ℕ) (k : Kind) → HasFired g all s i y → kind_of g s.world i y ≡ k → is_outlet k ≡ true → Ran g all s i y
  outlet-ran i y k fired kind o = fired-ran g args all s journal.valid sound i y fired (ap is_outlet kind ∙ o)

  -- a word that a firing gave came by it
  gift-source : (i x u : ℕ) → IsGift g s.world (HasFired g all s) i x u → WordSource g all s i x u (kind_of g s.world i x)
  gift-source i x u a = by (given-to (its_code g s.world i) a.node (kind_of g s.world i a.node) a.words x a.among)
    where
      by : GivenTo (its_code g s.world i) a.node (kind_of g s.world i a.node) a.words x → WordSource g all s i x u (kind_of g s.world i x)
      by (Itself e inner) = subst (λ z. WordSource g all s i x u (kind_of g s.world i z)) e
          (inner-source g all s i x u (kind_of g s.world i a.node) a.words inner a.have
          (subst (λ z. u ≡ (gift (its_code g s.world i) z (kind_of g s.world i a.node) a.words).1) e a.word))
      by (Inwards d j c t v kind words enters block) =
          let have : HaveThese s.world i (operands_of (its_code g s.world i) (Switch d j c)) (t ∷ v ∷ []) =
          subst (λ k. HaveThese s.world i (operands_of (its_code g s.world i) k) (t ∷ v ∷ [])) kind
          (subst (λ l. HaveThese s.world i (operands_of (its_code g s.world i) (kind_of g s.world i a.node)) l) words a.have) in
          let same : u ≡ v = subst (λ k. u ≡ (gift (its_code g s.world i) a.node k (t ∷ v ∷ [])).1) kind
          (subst (λ l. u ≡ (gift (its_code g s.world i) a.node (kind_of g s.world i a.node) l).1) words a.word) in
          subst (λ k. WordSource g all s i x u k) (sym enters)
          (a.node, d, c, t, kind, block, outlet-ran i a.node (Switch d j c) a.fired kind refl, have.0, subst (λ z. Has s i c z) (sym same) have.1.0)
      by (Outwards j c v d kind words owner merges) =
          let have : HaveThese s.world i (c ∷ []) (v ∷ []) = subst (λ k. HaveThese s.world i (operands_of (its_code g s.world i) k) (v ∷ [])) kind
          (subst (λ l. HaveThese s.world i (operands_of (its_code g s.world i) (kind_of g s.world i a.node)) l) words a.have) in
          let same : u ≡ v = subst (λ k. u ≡ (gift (its_code g s.world i) a.node k (v ∷ [])).1) kind
          (subst (λ l. u ≡ (gift (its_code g s.world i) a.node (kind_of g s.world i a.node) l).1) words a.word) in
          subst (λ k. WordSource g all s i x u k) (sym merges)
          (a.node, c, kind, owner, outlet-ran i a.node (Leave j c) a.fired kind refl, subst (λ z. Has s i c z) (sym same) have.0)

  -- the words of the state stand
  pub words-stand : WordsStand g all (state_after g all args events)
  words-stand = record {
    words_there = words-there g args journal.accepted all s sound wishes;
    suit = words-suit g args journal.accepted all s sound wishes;
    sources = λ i x u h. ⊎_elim (gift-source i x u) (λ k. received-source g all s i x u (kind_of g s.world i x) k.1 k.0) (state.kept.sources i x u h);
    runs_there = λ i b c h. let r = sound.ran i b c h in (r.0, r.1, state.classes i b c h);
    operands_ready = λ i x ran. let h = state.kept.done i x (ran-fired g args all s journal.valid sound i x ran) in
        have-some s i (operands_of (its_code g s.world i) (kind_of g s.world i x)) h.words h.have;
  }
