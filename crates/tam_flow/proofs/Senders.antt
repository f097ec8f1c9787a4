-- Who sends what: each message of a run has a tag, the activation and the node that sent it, and no two wishes of one run have one tag.
use Rattle.std.proofs.Common.{◌≡◌, ℕ, ◌<◌, Bool, true, false, ◌==◌, List, [], ◌∷◌, ◌++◌, map, length, refl, sym, ap, ap₂, ◌∙◌, subst, inl, inr, ◌⊎◌, ⊎_elim}
use Rattle.std.proofs.Common.{true≢false}
use Rattle.std.specs.List.{AllByRecursion}
use Rattle.tam_graph.specs.declared.kind.Kind.{Kind}
use Rattle.tam_graph.specs.declared.kind.Kind.TheVariants.{Const, Op as Operate, Seq, Call, Arg, Give, Alloc, Fetch, Store, Cond, Switch, Leave}
use Rattle.tam_msgs.specs.declared.message.Message.{Message}
use Rattle.tam_msgs.specs.declared.message.Message.TheVariants.{Word as Carry, Frame as Begin, Cells as Make, Fetch as Ask_cell, Store as Put_cell}
use Rattle.tam_msgs.specs.Messages.{outside}
use Rattle.tam_graph.specs.Graphs.{Graph, code_of, kind_at, block_at, operands_of, callee_of, node_where, is_param, is_ret}
use Rattle.tam_graph.specs.Accepted.{IsAccepted}
use Rattle.tam_split.specs.Blocks.{BlockGraph, vertex_at}
use Rattle.tam_fire.specs.FiringRules.{Entered, Holds}
use Rattle.tam_world.specs.Worlds.{World, Effect, activation_at, its_code, words_of, result_message, firing_of, fired_with, fired}
use Rattle.tam_flow.specs.Told.{path_of}
use Rattle.tam_flow.specs.Journals.{fire_each}
use Rattle.tam_flow.specs.Reached.{IsThere}
use Rattle.tam_word.proofs.Each.{all-more, all-append, all-map}
use Rattle.tam_flow.proofs.Growing.{Grows}
use Rattle.tam_flow.proofs.Justified.{IsPutBy, put_by-later}
use Rattle.tam_flow.proofs.Deliveries.{IsSoundEffect}
use Rattle.tam_flow.proofs.FiringReasons.{HaveThese, words-are, MayFire}
use Rattle.tam_flow.proofs.Firings.{put-by, fired-sound}
use Rattle.tam_flow.proofs.ActivationCounts.{then_one}
use Rattle.tam_flow.proofs.ClassRuns.{IsReady, sound-one}
use Rattle.tam_flow.proofs.Pairs.{Pairs, pairs-append, NoTwice}
use Rattle.tam_word.proofs.Members.{In}

-- a message with the activation and the node that sent it
abbrev pub Tag : Type 0
Tag = Message × ℕ × ℕ

-- a wish is any message but a word
abbrev pub asks : Message → Bool
asks (Carry f x u) = false
asks (Begin c f x) = true
asks (Make n f x) = true
asks (Ask_cell a j f x t) = true
asks (Put_cell a j u t) = true

-- a wish names its sender, or is a store's
abbrev pub IsSentBy : Graph → List ℕ → World → Message → ℕ → ℕ → Type 0
IsSentBy g args w (Carry f x u) i y = Unit {0}
IsSentBy g args w (Begin c f x) i y = (f ≡ i) × (x ≡ y)
IsSentBy g args w (Make n f x) i y = (f ≡ i) × (x ≡ y)
IsSentBy g args w (Ask_cell a j f x t) i y = (f ≡ i) × (x ≡ y)
IsSentBy g args w (Put_cell a j u t) i y = IsPutBy g args w i y a j u t

-- two wishes have different senders
abbrev pub TagApart : Tag → Tag → Type 0
TagApart t u = asks t.0 ≡ true → asks u.0 ≡ true → t.1 ≡ u.1 → t.2 ≡ u.2 → ⊥

-- who sent a message has sent it later too
pub sent_by-later : (g : Graph) (args : List ℕ) (w v : World) → Grows w v → (m : Message) (i y : ℕ) → IsSentBy g args w m i y → IsSentBy g args v m i y
sent_by-later g args w v grows (Carry f x u) i y h = h
sent_by-later g args w v grows (Begin c f x) i y h = h
sent_by-later g args w v grows (Make n f x) i y h = h
sent_by-later g args w v grows (Ask_cell a j f x t) i y h = h
sent_by-later g args w v grows (Put_cell a j u t) i y h = put_by-later g args w v grows i y a j u t h

-- the messages are words, or one wish of this sender
abbrev pub IsOneWish : Graph → List ℕ → World → ℕ → ℕ → List Message → Type 0
IsOneWish g args w i x ms = AllByRecursion (λ m. asks m ≡ false) ms ⊎ ((m : Message) × (ms ≡ m ∷ []) × IsSentBy g args w m i x)

-- words ask for nothing
pub words-only : (p v : ℕ) (ys : List ℕ) → AllByRecursion (λ m. asks m ≡ false) (map (λ y. Carry p y v) ys)
words-only p v [] = tt
words-only p v (y ∷ ys) = (refl, words-only p v ys)

-- each message with one tag
abbrev pub tagged_with : ℕ → ℕ → List Message → List Tag
tagged_with i x ms = map (λ m. (m, i, x)) ms

-- messages with their sender are those messages
pub tagged-same : (i x : ℕ) (ms : List Message) → map (λ t. t.0) (tagged_with i x ms) ≡ ms
tagged-same i x [] = refl
tagged-same i x (m ∷ ms) = ap (λ l. m ∷ l) (tagged-same i x ms)

-- a word may be sent by anyone
pub word-sent : (g : Graph) (args : List ℕ) (w : World) (m : Message) (i y : ℕ) → asks m ≡ false → IsSentBy g args w m i y
word-sent g args w (Carry f x u) i y h = tt
word-sent g args w (Begin c f x) i y h = absurd (true≢false h)
word-sent g args w (Make n f x) i y h = absurd (true≢false h)
word-sent g args w (Ask_cell a j f x t) i y h = absurd (true≢false h)
word-sent g args w (Put_cell a j u t) i y h = absurd (true≢false h)

-- each message of a firing is sent by its node
pub tagged-sent : (g : Graph) (args : List ℕ) (w : World) (i x : ℕ) (ms : List Message) → IsOneWish g args w i x ms
    → AllByRecursion (λ t. IsSentBy g args w t.0 t.1 t.2) (tagged_with i x ms)
tagged-sent g args w i x ms (inl h) =
    all-map (λ t. IsSentBy g args w t.0 t.1 t.2) (λ m. (m, i, x)) ms
    (all-more (λ m. asks m ≡ false) (λ m. IsSentBy g args w m i x) (λ m k. word-sent g args w m i x k) ms h)
tagged-sent g args w i x ms (inr h) = subst (λ l. AllByRecursion (λ t. IsSentBy g args w t.0 t.1 t.2) (tagged_with i x l)) (sym h.1) (h.2, tt)

-- words of one sender are apart, since they ask for nothing
pub words-apart : (i x : ℕ) (ms : List Message) → AllByRecursion (λ m. asks m ≡ false) ms → Pairs TagApart (tagged_with i x ms)
words-apart i x [] h = tt
words-apart i x (m ∷ ms) h = (first (tagged_with i x ms), words-apart i x ms h.1)
  where
    first : (ts : List Tag) → AllByRecursion (TagApart (m, i, x)) ts
    first [] = tt
    first (t ∷ ts) = ((λ p q r s. true≢false (sym p ∙ h.0)), first ts)

-- so are the messages of a firing, with one wish at most
pub tagged-apart : (g : Graph) (args : List ℕ) (w : World) (i x : ℕ) (ms : List Message) → IsOneWish g args w i x ms → Pairs TagApart (tagged_with i x ms)
tagged-apart g args w i x ms (inl h) = words-apart i x ms h
tagged-apart g args w i x ms (inr h) = subst (λ l. Pairs TagApart (tagged_with i x l)) (sym h.1) (tt, tt)

module _ {g : Graph} {args : List ℕ} {w : World} {i x : ℕ} (firer : MayFire g args w i x) where
  -- results are words
  result-words : (k v : ℕ) → AllByRecursion (λ m. asks m ≡ false) (result_message g w i k v)
  result-words k v = go ((activation_at w i).caller == outside) refl
    where
      go : (b : Bool) → ((activation_at w i).caller == outside) ≡ b → AllByRecursion (λ m. asks m ≡ false) (result_message g w i k v)
      go true c = rw (result_message, c) (refl, tt)
      go false c = rw (result_message, c)
          (words-only (activation_at w i).caller v (node_where (its_code g w (activation_at w i).caller) (is_ret (activation_at w i).call k)))

  -- a firing sends one wish at most, by what the node does
  firing-wish : (k : Kind) (vs : List ℕ) → kind_at (its_code g w i) x ≡ k → HaveThese w i (operands_of (its_code g w i) k) vs
      → IsOneWish g args w i x (firing_of g w i x k vs).sends
  firing-wish (Const v) [] e h = inl tt
  firing-wish (Operate o l r) (u ∷ v ∷ []) e h = inl tt
  firing-wish (Seq l r) (u ∷ v ∷ []) e h = inl tt
  firing-wish (Call c) [] e h = inr (Begin c i x, refl, (refl, refl))
  firing-wish (Arg f k a) (v ∷ p ∷ []) e h = inl (words-only p v (node_where (code_of g (callee_of (its_code g w i) f)) (is_param k)))
  firing-wish (Give k a) (v ∷ []) e h = inl (result-words k v)
  firing-wish (Alloc a) (n ∷ []) e h = inr (Make n i x, refl, (refl, refl))
  firing-wish (Fetch a j) (u ∷ v ∷ []) e h = inr (Ask_cell u v i x _, refl, (refl, refl))
  firing-wish (Store a j b) (t ∷ u ∷ v ∷ []) e h = inr (Put_cell t u v _, refl, put-by firer a j b t u v e h)
  firing-wish (Cond p y n) (v ∷ []) e h = inl tt
  firing-wish (Switch d k a) (u ∷ v ∷ []) e h = inl tt
  firing-wish (Leave k a) (v ∷ []) e h = inl tt
  firing-wish k vs e h = inl tt

  -- whatever the node is
  pub fired-wish : IsOneWish g args w i x (fired g w i x).sends
  fired-wish = go (words_of w i (operands_of (its_code g w i) (kind_at (its_code g w i) x)))
      (words-are w i (operands_of (its_code g w i) (kind_at (its_code g w i) x)))
    where
      go : (ws : List (List ℕ)) → ((vs : List ℕ) (more : List (List ℕ)) → ws ≡ vs ∷ more
          → HaveThese w i (operands_of (its_code g w i) (kind_at (its_code g w i) x)) vs)
          → IsOneWish g args w i x (fired_with g w i x ws).sends
      go [] f = inl tt
      go (vs ∷ more) f = firing-wish (kind_at (its_code g w i) x) vs refl (f vs more refl)

-- ---- a run

-- the tag is of activation i and of a vertex among those done
abbrev pub IsOf : BlockGraph → ℕ → List ℕ → Tag → Type 0
IsOf b i done t = (t.1 ≡ i) × (y : ℕ) × In y done × (y < length b.vertices) × ((vertex_at b y).inlet ≡ false) × ((vertex_at b y).node ≡ t.2)

-- the messages of an effect have tags, each of its sender, of vertices done, no two wishes with one tag
pub record IsTaggedRun (g : Graph) (args : List ℕ) (b : BlockGraph) (i : ℕ) (done : List ℕ) (e : Effect) : Type 0 where
  pub tags : List Tag
  pub same : map (λ t. t.0) tags ≡ e.sends
  pub sent_by : AllByRecursion (λ t. IsSentBy g args e.world t.0 t.1 t.2) tags
  pub of : AllByRecursion (IsOf b i done) tags
  pub apart : Pairs TagApart tags

-- the messages of two lists joined
pub map-append : (ts us : List Tag) → map (λ t. t.0) (ts ++ us) ≡ map (λ t. t.0) ts ++ map (λ t. t.0) us
map-append [] us = refl
map-append (t ∷ ts) us = ap (λ l. t.0 ∷ l) (map-append ts us)

-- what is done after further ones
abbrev pub done_after : List ℕ → List ℕ → List ℕ
done_after done [] = done
done_after done (y ∷ ys) = done_after (y ∷ done) ys

-- what is done after more has fired was done, or is among those
pub done-in : (done ys : List ℕ) (z : ℕ) → In z (done_after done ys) → In z done ⊎ In z ys
done-in done [] z h = inl h
done-in done (y ∷ ys) z h = go (done-in (y ∷ done) ys z h)
  where
    go : In z (y ∷ done) ⊎ In z ys → In z done ⊎ In z (y ∷ ys)
    go (inl (inl e)) = inr (inl e)
    go (inl (inr k)) = inl k
    go (inr k) = inr (inr k)

-- what differs from each element is none
not-in : (y : ℕ) (ys : List ℕ) (z : ℕ) → AllByRecursion (λ x. y ≡ x → ⊥) ys → z ≡ y → In z ys → ⊥
not-in y [] z h e k = k
not-in y (x ∷ xs) z h e (inl d) = h.0 (sym e ∙ sym d)
not-in y (x ∷ xs) z h e (inr k) = not-in y xs z h.1 e k

module _ (g : Graph) (args : List ℕ) (accepted : IsAccepted g) (w : World) (i : ℕ) (there : IsThere w i) (b : BlockGraph)
    (one_place : (y z : ℕ) → y < length b.vertices → z < length b.vertices → (vertex_at b y).inlet ≡ false → (vertex_at b z).inlet ≡ false
    → (vertex_at b y).node ≡ (vertex_at b z).node → y ≡ z) where
  -- what is of those done is of those done and one more
  of-more : (done : List ℕ) (y : ℕ) (t : Tag) → IsOf b i done t → IsOf b i (y ∷ done) t
  of-more done y t h = (h.0, h.1, inr h.2, h.3, h.4, h.5)

  -- one more vertex that fires keeps the tags apart
  tagged-one : (done : List ℕ) (e : Effect) (y : ℕ) → IsSoundEffect g args w e → IsTaggedRun g args b i done e → IsReady g args accepted w i there b y
      → y < length b.vertices
      → (In y done → ⊥) → IsTaggedRun g args b i (y ∷ done) (then_one g b i e y)
  tagged-one done e y sound run ready l new = go (vertex_at b y).inlet refl
    where
      go : (t : Bool) → (vertex_at b y).inlet ≡ t → IsTaggedRun g args b i (y ∷ done) (then_one g b i e y)
      go true d = rw (then_one, d) (record {
        tags = run.tags;
        same = run.same;
        sent_by = run.sent_by;
        of = all-more (IsOf b i done) (IsOf b i (y ∷ done))
            (of-more done y) run.tags run.of;
        apart = run.apart;
      })
      go false d =
          let x : ℕ = (vertex_at b y).node in
          let code : (activation_at e.world i).code ≡ (activation_at w i).code = sound.grows.code i there in
          let inside = subst (λ n. (vertex_at b y).node < length (code_of g n).nodes) (sym code) (ready d).0 in
          let opened = subst (λ n. Holds g args (Entered (path_of e.world i) (block_at (code_of g n) (vertex_at b y).node))) (sym code)
          (subst (λ q. Holds g args (Entered q (block_at (its_code g w i) (vertex_at b y).node))) (sym (sound.grows.path i there)) (ready d).1) in
          let firer : MayFire g args e.world i (vertex_at b y).node = record {
            stands = record { accepted = accepted; sound = sound.world; there = sound.grows.there i there };
            inside = inside;
            open_block = opened;
          } in
          let f = fired-sound firer in
          let wish = fired-wish firer in
          let sends : List Message = (fired g e.world i (vertex_at b y).node).sends in
          rw (then_one, d) (record {
            tags = run.tags ++ tagged_with i (vertex_at b y).node sends;
            same = map-append run.tags (tagged_with i (vertex_at b y).node sends) ∙ ap₂ (λ l m. l ++ m) run.same (tagged-same i (vertex_at b y).node sends);
            sent_by = all-append (λ t. IsSentBy g args (fired g e.world i (vertex_at b y).node).world t.0 t.1 t.2) run.tags
                (tagged_with i (vertex_at b y).node sends)
                (all-more (λ t. IsSentBy g args e.world t.0 t.1 t.2) (λ t. IsSentBy g args (fired g e.world i (vertex_at b y).node).world t.0 t.1 t.2)
                (λ t h. sent_by-later g args e.world (fired g e.world i (vertex_at b y).node).world f.grows t.0 t.1 t.2 h) run.tags run.sent_by)
                (all-more (λ t. IsSentBy g args e.world t.0 t.1 t.2) (λ t. IsSentBy g args (fired g e.world i (vertex_at b y).node).world t.0 t.1 t.2)
                (λ t h. sent_by-later g args e.world (fired g e.world i (vertex_at b y).node).world f.grows t.0 t.1 t.2 h)
                (tagged_with i (vertex_at b y).node sends)
                (tagged-sent g args e.world i (vertex_at b y).node sends wish));
            of = all-append (IsOf b i (y ∷ done)) run.tags (tagged_with i (vertex_at b y).node sends)
                (all-more (IsOf b i done) (IsOf b i (y ∷ done)) (of-more done y) run.tags run.of)
                (new-of d sends);
            apart = pairs-append TagApart run.tags (tagged_with i (vertex_at b y).node sends) run.apart
                (tagged-apart g args e.world i (vertex_at b y).node sends wish)
                (all-more (IsOf b i done) (λ t. AllByRecursion (TagApart t) (tagged_with i (vertex_at b y).node sends))
                (λ t h. across d t h sends) run.tags run.of);
          })
        where
          new-of : (vertex_at b y).inlet ≡ false → (ms : List Message) → AllByRecursion (IsOf b i (y ∷ done)) (tagged_with i (vertex_at b y).node ms)
          new-of d [] = tt
          new-of d (m ∷ ms) = ((refl, y, inl refl, l, d, refl), new-of d ms)

          across : (vertex_at b y).inlet ≡ false → (t : Tag) → IsOf b i done t → (ms : List Message)
              → AllByRecursion (TagApart t) (tagged_with i (vertex_at b y).node ms)
          across d t h [] = tt
          across d t h (m ∷ ms) = ((λ p q r s. new (subst (λ z. In z done) (one_place h.1 y h.3 l h.4 d (h.5 ∙ s)) h.2)), across d t h ms)

  -- and so with each of them in turn
  pub tagged-each : (ys done : List ℕ) (e : Effect) → IsSoundEffect g args w e → IsTaggedRun g args b i done e
      → AllByRecursion (IsReady g args accepted w i there b) ys
      → AllByRecursion (λ y. y < length b.vertices) ys → NoTwice ys → ((z : ℕ) → In z done → In z ys → ⊥)
      → IsTaggedRun g args b i (done_after done ys) (fire_each g b i e ys)
  tagged-each [] done e sound run ready within once fresh = run
  tagged-each (y ∷ ys) done e sound run ready within once fresh =
      tagged-each ys (y ∷ done) (then_one g b i e y) (sound-one g args accepted w i there b e y sound ready.0)
      (tagged-one done e y sound run ready.0 within.0 (λ k. fresh y k (inl refl)))
      ready.1 within.1 once.1 (λ z k m. ⊎_elim (λ d. not-in y ys z once.0 (sym d) m) (λ d. fresh z d (inr m)) k)
