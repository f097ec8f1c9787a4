-- What a firing sends to the outside: a result of the root its word, once, and no other node anything.
use Rattle.std.proofs.Common.{◌≡◌, ℕ, zero, suc, ◌^◌, ◌+◌, ◌<◌, Bool, true, false, ◌==◌, ◌&&◌, List, [], ◌∷◌, ◌++◌, Option, Some, None, slice_get, map}
use Rattle.std.proofs.Common.{length, nat_lt, refl, sym, ap, ◌∙◌, arith, subst, inl, inr, true≢false}
use Rattle.std.proofs.lemmas.List.{length-append}
use Rattle.std.specs.List.{AllByRecursion}
use Rattle.tam_word.proofs.Each.{all-more, all-append, get-left, get-last}
use Rattle.tam_word.proofs.Members.{In}
use Rattle.tam_word.proofs.Tests.{and-left, self-eq, number-eq, eq-number, not-false}
use Rattle.tam_graph.specs.declared.kind.Kind.{Kind}
use Rattle.tam_graph.specs.declared.kind.Kind.TheVariants.{Const, Op as Operate, Seq, Call, Arg, Give, Alloc, Fetch, Store, Cond, Switch, Leave}
use Rattle.tam_graph.specs.Graphs.{Graph, code_of, kind_at, depth_at, operands_of, callee_of, node_where, is_param, is_ret}
use Rattle.tam_graph.specs.Accepted.{IsAccepted}
use Rattle.tam_graph.specs.Written.{is_operand, is_call_node}
use Rattle.tam_split.specs.Blocks.{BlockGraph, vertex_at}
use Rattle.tam_fire.specs.FiringRules.{Path, Word, Fired, Holds, code_at}
use Rattle.tam_msgs.specs.declared.message.Message.{Message}
use Rattle.tam_msgs.specs.declared.message.Message.TheVariants.{Word as Carry, Frame as Begin, Cells as Make, Fetch as Ask_cell, Store as Put_cell}
use Rattle.tam_msgs.specs.Messages.{outside, site}
use Rattle.tam_world.specs.Worlds.{World, Effect, ActivationState, or_activation, activation_at, its_code, words_of, result_message, firing_of, fired_with}
use Rattle.tam_world.specs.Worlds.{fired}
use Rattle.tam_flow.specs.Told.{or_path, paths_behind, path_of}
use Rattle.tam_flow.specs.Reached.{IsThere, kind_of}
use Rattle.tam_flow.proofs.Growing.{Grows, path_behind}
use Rattle.tam_flow.proofs.CellChanges.{none-some, some-eq}
use Rattle.tam_flow.proofs.Deliveries.{IsSoundEffect, not-outside, there-some}
use Rattle.tam_flow.proofs.Nodes.{root-words, operand, call-operand}
use Rattle.tam_flow.proofs.FiringReasons.{HaveThese, words-are, MayFire, path-code, word-operand, call-is, fires, its_line}
use Rattle.tam_flow.proofs.Firings.{fired-sound}
use Rattle.tam_flow.proofs.Pairs.{Pairs, pairs-append}
use Rattle.tam_flow.proofs.InterfacePlaces.{place-one}
use Rattle.tam_flow.proofs.RunSteps.{KeptByFirings}
use Rattle.tam_flow.proofs.WordSenders.{few-pairs, fired-words}

-- ---- words to the outside

-- the message is no word to the outside
abbrev pub IsInside : Message → Type 0
IsInside m = (k u : ℕ) → m ≡ Carry outside k u → ⊥

-- the two messages aren't words to the outside for one place
abbrev pub OutApart : Message → Message → Type 0
OutApart m n = (k u v : ℕ) → m ≡ Carry outside k u → n ≡ Carry outside k v → ⊥

-- node y of the root is the result of place k, and has fired with the word u
pub record GivesOut (g : Graph) (args : List ℕ) (w : World) (y k u : ℕ) : Type 0 where
  pub operand : ℕ
  pub inside : y < length (its_code g w 0).nodes
  pub is_give : kind_of g w 0 y ≡ Give k operand
  pub fired : Holds g args (Fired [] y (Word u ∷ []))

-- a word is one of its receiver and its word
pub carry-eq : {f x u e y v : ℕ} → Carry f x u ≡ Carry e y v → (f ≡ e) × (x ≡ y) × (u ≡ v)
carry-eq q = (cc, cc, cc)

-- a word for an activation is none to the outside
pub word-inside : (f x u : ℕ) → (f == outside) ≡ false → IsInside (Carry f x u)
word-inside f x u h k v e = true≢false (sym (eq-number f outside (carry-eq e).0) ∙ h)

-- what a later world keeps
pub gives-later : (g : Graph) (args : List ℕ) (w v : World) → Grows w v → IsThere w 0 → (y k u : ℕ) → GivesOut g args w y k u → GivesOut g args v y k u
gives-later g args w v grows there y k u h = record {
  operand = h.operand;
  inside = subst (λ n. y < length (code_of g n).nodes) (sym (grows.code 0 there)) h.inside;
  is_give = ap (λ n. kind_at (code_of g n) y) (grows.code 0 there) ∙ h.is_give;
  fired = h.fired;
}

-- one node of the root is the result of a place
pub one-give : (g : Graph) (args : List ℕ) → IsAccepted g → (w : World) → (activation_at w 0).code < length g.codes → (y z k u v : ℕ)
    → GivesOut g args w y k u → GivesOut g args w z k v → y ≡ z
one-give g args accepted w there y z k u v h j =
    let p = h.is_give in
    let q = j.is_give in
    place-one g accepted (activation_at w 0).code there y z h.inside j.inside (rw (p, q) (self-eq k)) (rw (q, p) (self-eq k))

-- ---- the root

-- paths that are known stay in front
paths-prefix : (known : List Path) (xs : List ActivationState) (n : ℕ) → n < length known → slice_get (paths_behind known xs) n ≡ slice_get known n
paths-prefix known [] n l = refl
paths-prefix known (x ∷ xs) n l =
    paths-prefix (known ++ path_behind known x ∷ []) xs n (omega (arith, length-append known (path_behind known x ∷ []), l))
    ∙ get-left known (path_behind known x ∷ []) n l

-- the path of an activation whose caller is the outside is empty
outside-path : (known : List Path) (xs : List ActivationState) (j : ℕ) (a : ActivationState) → slice_get xs j ≡ Some a → (a.caller == outside) ≡ true
    → or_path (slice_get (paths_behind known xs) (length known + j)) ≡ []
outside-path known [] j a e o = absurd (none-some e)
outside-path known (x ∷ xs) zero a e o =
    let here : length known + 0 ≡ length known = omega arith in
    let less : length known < length (known ++ path_behind known x ∷ []) = omega (arith, length-append known (path_behind known x ∷ [])) in
    subst (λ n. or_path (slice_get (paths_behind (known ++ path_behind known x ∷ []) xs) n) ≡ []) (sym here)
    (ap or_path (paths-prefix (known ++ path_behind known x ∷ []) xs (length known) less ∙ get-last known (path_behind known x))
    ∙ empty x (subst (λ b. (b.caller == outside) ≡ true) (sym (some-eq e)) o))
  where
    empty : (b : ActivationState) → (b.caller == outside) ≡ true → path_behind known b ≡ []
    empty b k = rw (path_behind, k) refl
outside-path known (x ∷ xs) (suc j) a e o =
    let n : length (known ++ path_behind known x ∷ []) + j ≡ length known + suc j = omega (arith, length-append known (path_behind known x ∷ [])) in
    subst (λ m. or_path (slice_get (paths_behind (known ++ path_behind known x ∷ []) xs) m) ≡ []) n
    (outside-path (known ++ path_behind known x ∷ []) xs j a e o)

-- what the outside began has the root's path
outside-root : (w : World) (j : ℕ) → IsThere w j → ((activation_at w j).caller == outside) ≡ true → path_of w j ≡ []
outside-root w j t o = go (slice_get w.activations j) refl
  where
    go : (a : Option ActivationState) → slice_get w.activations j ≡ a → path_of w j ≡ []
    go None e = absurd (there-some w.activations j t e)
    go (Some a) e =
        let n : 0 + j ≡ j = omega arith in
        subst (λ m. or_path (slice_get (paths_behind [] w.activations) m) ≡ []) n
        (outside-path [] w.activations j a e (subst (λ b. ((or_activation b).caller == outside) ≡ true) e o))

-- ---- a firing

-- a word to the outside is that of node y of activation i, which is the root
abbrev pub IsOutOf : Graph → List ℕ → World → ℕ → ℕ → Message → Type 0
IsOutOf g args w i y m = (k u : ℕ) → m ≡ Carry outside k u → (i ≡ 0) × GivesOut g args w y k u

module _ {g : Graph} {args : List ℕ} {w : World} {i y : ℕ} (firer : MayFire g args w i y) (root : path_of w i ≡ [] → i ≡ 0)
    (few : length w.activations < 2 ^ 32) where
  -- words for an activation are none of its
  none-of : (m : Message) → IsInside m → IsOutOf g args w i y m
  none-of m h k u e = absurd (h k u e)

  -- words for the nodes of an activation are none
  words-inside : (f v : ℕ) (xs : List ℕ) → (f == outside) ≡ false → AllByRecursion (IsOutOf g args w i y) (map (λ x. Carry f x v) xs)
  words-inside f v [] h = tt
  words-inside f v (x ∷ xs) h = (none-of (Carry f x v) (word-inside f x v h), words-inside f v xs h)

  -- an arg sends to what its call began
  arg-out : (f k a v p : ℕ) → kind_at (its_code g w i) y ≡ Arg f k a → HaveThese w i (a ∷ f ∷ []) (v ∷ p ∷ [])
      → AllByRecursion (IsOutOf g args w i y) (map (λ x. Carry p x v) (node_where (code_of g (callee_of (its_code g w i) f)) (is_param k)))
  arg-out f k a v p e h =
      let call = call-operand (its_code g w i) f
      (and-left (is_call_node (its_code g w i) f) (is_operand (its_code g w i) a && nat_lt k 64) (its_line firer (Arg f k a) e)) in
      words-inside p v (node_where (code_of g (callee_of (its_code g w i) f)) (is_param k))
      (not-outside g args p (length w.activations) (call-is firer.stands f p call.0 call.1 h.1.0).0.0 few)

  -- a result of the root has fired with its word
  root-gives : (k a v : ℕ) → i ≡ 0 → path_of w i ≡ [] → kind_at (its_code g w i) y ≡ Give k a → HaveThese w i (a ∷ []) (v ∷ []) → GivesOut g args w y k v
  root-gives k a v at_root path e h =
      subst (λ n. y < length (its_code g w n).nodes → kind_of g w n y ≡ Give k a → GivesOut g args w y k v) (sym at_root)
      (λ l d. record { operand = a; inside = l; is_give = d; fired = gave }) firer.inside e
    where
      code : (activation_at w i).code ≡ g.main
      code = sym (path-code firer.stands) ∙ ap (code_at g) path

      flat : depth_at (its_code g w i) a ≡ 0
      flat = number-eq (depth_at (its_code g w i) a) 0 (not-false (depth_at (its_code g w i) a == 0)
          (root-words g firer.stands.accepted (activation_at w i).code (firer.stands.sound.codes i firer.stands.there) y (Give k a) firer.inside e code))

      gave : Holds g args (Fired [] y (Word v ∷ []))
      gave = subst (λ q. Holds g args (Fired q y (Word v ∷ []))) path (fires firer (Give k a) (Word v ∷ []) e refl refl (
        word-operand firer.stands a v
            (operand (its_code g w i) a (and-left (is_operand (its_code g w i) a) (nat_lt k 64) (its_line firer (Give k a) e))).no_call flat h.0,
        tt,
      ))

  -- a result goes to the call that began its activation, or to the outside
  give-out : (k a v : ℕ) → kind_at (its_code g w i) y ≡ Give k a → HaveThese w i (a ∷ []) (v ∷ [])
      → AllByRecursion (IsOutOf g args w i y) (result_message g w i k v)
  give-out k a v e h = go ((activation_at w i).caller == outside) refl
    where
      go : (t : Bool) → ((activation_at w i).caller == outside) ≡ t → AllByRecursion (IsOutOf g args w i y) (result_message g w i k v)
      go true c = rw (result_message, c) (outwards, tt)
        where
          path : path_of w i ≡ []
          path = outside-root w i firer.stands.there c

          outwards : (j u : ℕ) → Carry outside k v ≡ Carry outside j u → (i ≡ 0) × GivesOut g args w y j u
          outwards j u d =
              let same = carry-eq d in
              (root path, subst (λ z. GivesOut g args w y z u) same.1 (subst (λ z. GivesOut g args w y k z) same.2 (root-gives k a v (root path) path e h)))
      go false c = rw (result_message, c) (words-inside (activation_at w i).caller v
          (node_where (its_code g w (activation_at w i).caller) (is_ret (activation_at w i).call k)) c)

  -- what a node sends, by what it does
  firing-out : (k : Kind) (vs : List ℕ) → kind_at (its_code g w i) y ≡ k → HaveThese w i (operands_of (its_code g w i) k) vs
      → AllByRecursion (IsOutOf g args w i y) (firing_of g w i y k vs).sends
  firing-out (Const v) [] e h = tt
  firing-out (Operate o l r) (u ∷ v ∷ []) e h = tt
  firing-out (Seq l r) (u ∷ v ∷ []) e h = tt
  firing-out (Call c) [] e h = (none-of (Begin c i y) (λ k u d. begin-word d), tt)
    where
      begin-word : {f x u : ℕ} → Begin c i y ≡ Carry f x u → ⊥
      begin-word d = cc
  firing-out (Arg f k a) (v ∷ p ∷ []) e h = arg-out f k a v p e h
  firing-out (Give k a) (v ∷ []) e h = give-out k a v e h
  firing-out (Alloc a) (n ∷ []) e h = (none-of (Make n i y) (λ k u d. make-word d), tt)
    where
      make-word : {f x u : ℕ} → Make n i y ≡ Carry f x u → ⊥
      make-word d = cc
  firing-out (Fetch a j) (u ∷ v ∷ []) e h = (none-of (Ask_cell u v i y (site (activation_at w i).code y)) (λ k t d. ask-word d), tt)
    where
      ask-word : {f x t : ℕ} → Ask_cell u v i y (site (activation_at w i).code y) ≡ Carry f x t → ⊥
      ask-word d = cc
  firing-out (Store a j b) (t ∷ u ∷ v ∷ []) e h = (none-of (Put_cell t u v (site (activation_at w i).code y)) (λ k z d. put-word d), tt)
    where
      put-word : {f x z : ℕ} → Put_cell t u v (site (activation_at w i).code y) ≡ Carry f x z → ⊥
      put-word d = cc
  firing-out (Cond p a n) (v ∷ []) e h = tt
  firing-out (Switch d k a) (u ∷ v ∷ []) e h = tt
  firing-out (Leave k a) (v ∷ []) e h = tt
  firing-out k vs e h = tt

  -- whatever it does
  pub fired-out : AllByRecursion (IsOutOf g args w i y) (fired g w i y).sends
  fired-out = go (words_of w i (operands_of (its_code g w i) (kind_at (its_code g w i) y)))
      (words-are w i (operands_of (its_code g w i) (kind_at (its_code g w i) y)))
    where
      go : (ws : List (List ℕ)) → ((vs : List ℕ) (more : List (List ℕ)) → ws ≡ vs ∷ more
          → HaveThese w i (operands_of (its_code g w i) (kind_at (its_code g w i) y)) vs)
          → AllByRecursion (IsOutOf g args w i y) (fired_with g w i y ws).sends
      go [] f = tt
      go (vs ∷ more) f = firing-out (kind_at (its_code g w i) y) vs refl (f vs more refl)

-- ---- a run

-- a word to the outside was sent by a vertex among those done, of the root
abbrev pub IsOutIn : Graph → List ℕ → BlockGraph → World → ℕ → List ℕ → Message → Type 0
IsOutIn g args b w i done m = (k u : ℕ) → m ≡ Carry outside k u
    → (i ≡ 0) × ((y : ℕ) × In y done × (y < length b.vertices) × ((vertex_at b y).inlet ≡ false) × GivesOut g args w (vertex_at b y).node k u)

-- the words of a run to the outside: one at most for a place, each by a vertex among those done
pub record IsOutRun (g : Graph) (args : List ℕ) (b : BlockGraph) (i : ℕ) (done : List ℕ) (e : Effect) : Type 0 where
  pub apart : Pairs OutApart e.sends
  pub by : AllByRecursion (IsOutIn g args b e.world i done) e.sends

module _ (g : Graph) (args : List ℕ) (accepted : IsAccepted g) (w : World) (few : length w.activations < 2 ^ 32) (i : ℕ) (there : IsThere w i)
    (root : path_of w i ≡ [] → i ≡ 0) (b : BlockGraph)
    (one_place : (y z : ℕ) → y < length b.vertices → z < length b.vertices → (vertex_at b y).inlet ≡ false → (vertex_at b z).inlet ≡ false
    → (vertex_at b y).node ≡ (vertex_at b z).node → y ≡ z) where
  -- each firing keeps it
  pub out-kept : KeptByFirings g args accepted w i there b (IsOutRun g args b i)
  out-kept = record {
    skips = λ done e y h d. record {
      apart = h.apart;
      by = all-more (IsOutIn g args b e.world i done) (IsOutIn g args b e.world i (y ∷ done)) (λ m f. more done y e.world m f) e.sends h.by;
    };
    fires = λ done e y effect same h firer l none new.
        let v : World = (fired g e.world i (vertex_at b y).node).world in
        let ms : List Message = (fired g e.world i (vertex_at b y).node).sends in
        let f = fired-sound firer in
        let ws = fired-out firer (λ p. root (sym (effect.grows.path i there) ∙ p)) (subst (λ n. n < 2 ^ 32) (sym same) few) in record {
          apart = pairs-append OutApart e.sends ms h.apart (few-pairs OutApart ms (fired-words firer).few)
              (all-more (IsOutIn g args b e.world i done) (λ m. AllByRecursion (OutApart m) ms)
              (λ m p. all-more (IsOutOf g args e.world i (vertex_at b y).node) (OutApart m)
              (λ n q k u z c d. across done e y effect l none new k u z (p k u c) (q k z d)) ms ws) e.sends h.by);
          by = all-append (IsOutIn g args b v i (y ∷ done)) e.sends ms
              (all-more (IsOutIn g args b e.world i done) (IsOutIn g args b v i (y ∷ done))
              (λ m p. later e.world v f.grows (y ∷ done) (firer.stands.there) m (more done y e.world m p)) e.sends h.by)
              (all-more (IsOutOf g args e.world i (vertex_at b y).node) (IsOutIn g args b v i (y ∷ done))
              (λ m q k u c. let r = q k u c in (
                r.0,
                (
                  y,
                  inl refl,
                  l,
                  none,
                  gives-later g args e.world v f.grows
                      (subst (λ n. IsThere e.world n) r.0 firer.stands.there) (vertex_at b y).node k u r.1,
                ),
              )) ms ws);
        };
  }
    where
      more : (done : List ℕ) (y : ℕ) (v : World) (m : Message) → IsOutIn g args b v i done m → IsOutIn g args b v i (y ∷ done) m
      more done y v m h k u c = let r = h k u c in (r.0, (r.1.0, inr r.1.1, r.1.2, r.1.3, r.1.4))

      later : (u v : World) → Grows u v → (done : List ℕ) → IsThere u i → (m : Message) → IsOutIn g args b u i done m → IsOutIn g args b v i done m
      later u v grows done t m h k z c =
          let r = h k z c in
          (r.0, (r.1.0, r.1.1, r.1.2, r.1.3, gives-later g args u v grows (subst (λ n. IsThere u n) r.0 t) (vertex_at b r.1.0).node k z r.1.4))

      across : (done : List ℕ) (e : Effect) (y : ℕ) → IsSoundEffect g args w e → y < length b.vertices → (vertex_at b y).inlet ≡ false
          → (In y done → ⊥) → (k u v : ℕ)
          → (i ≡ 0) × ((z : ℕ) × In z done × (z < length b.vertices) × ((vertex_at b z).inlet ≡ false) × GivesOut g args e.world (vertex_at b z).node k u)
          → (i ≡ 0) × GivesOut g args e.world (vertex_at b y).node k v → ⊥
      across done e y effect l none new k u v p q =
          let here : IsThere e.world 0 = subst (λ n. IsThere e.world n) p.0 (effect.grows.there i there) in
          let same = one-give g args accepted e.world (effect.world.codes 0 here) (vertex_at b p.1.0).node (vertex_at b y).node k u v p.1.4 q.1 in
          new (subst (λ z. In z done) (one_place p.1.0 y p.1.2 l p.1.3 none same) p.1.1)
