-- What is charged are different instances that the state tells of.
use Rattle.std.proofs.Common.{◌≡◌, ◌≢◌, ℕ, zero, suc, ◌+◌, ◌<◌, Bool, true, false, ◌&&◌, List, [], ◌∷◌, ◌++◌, refl, sym, subst, ap, ap₂, inl, inr, ◌∙◌}
use Rattle.std.proofs.Common.{true≢false, ◌==◌, length, map, arith, get_or}
use Rattle.std.specs.Prelude.{All, AllPairs}
use Rattle.tam_word.proofs.Tests.{eq-number, true-both}
use Rattle.tam_word.proofs.Members.{In, Distinct, in-append, in-map, in-any, filter-in, below-in}
use Rattle.tam_graph.specs.declared.kind.Kind.{Kind}
use Rattle.tam_graph.specs.Graphs.{Code, Graph, kind_at, block_at, depth_at, operands_of, is_outlet, is_inlet, has_value, fires}
use Rattle.tam_split.specs.declared.vertex.Vertex.{Vertex}
use Rattle.tam_split.specs.GraphPartitions.{singles}
use Rattle.tam_split.specs.Partitions.{Parts, class_of}
use Rattle.tam_split.specs.Blocks.{vertices_in, vertex_at, places, or_vertex}
use Rattle.tam_split.proofs.Firers.{Firer, is_inner, inner-no_inlet, value-inner, firer-block, firer-within, firer-fires, at-shape, Shape}
use Rattle.tam_split.proofs.Partitioning.{single-class}
use Rattle.tam_split.proofs.Singles.{parts-single}
use Rattle.tam_fire.specs.FiringRules.{Path, Value, Instance, IsActive, Giver as Of_giver, Firer as Of_firer}
use Rattle.tam_world.specs.Worlds.{activation_at, its_code, has_word}
use Rattle.tam_flow.specs.Journals.{State, has_run, block_of_act, parts_of_act}
use Rattle.tam_flow.specs.Told.{Tells, path_of, meant_at, HaveWords, outlet_place, outlet_ran}
use Rattle.tam_flow.specs.RunJournals.{IsCharged}
use Rattle.tam_flow.specs.Reached.{IsThere, IsReached, HaveSome}
use Rattle.tam_eval.proofs.KeptBySteps.{distinct-append}
use Rattle.tam_flow.proofs.ActivationLists.{has-word}
use Rattle.tam_eval.proofs.Charges.{HasFired, HasReceived, Charged}

-- ---- kinds and vertices

-- what fires and is no outlet is inner
fires-inner : (k : Kind) → fires k ≡ true → is_outlet k ≡ false → is_inner k ≡ true
fires-inner k h n = go (is_outlet k) refl (has_value k) refl (is_inlet k) refl
  where
    go : (a : Bool) → is_outlet k ≡ a → (b : Bool) → has_value k ≡ b → (c : Bool) → is_inlet k ≡ c → is_inner k ≡ true
    go true p b q c r = absurd (true≢false (sym p ∙ n))
    go false p false q c r = absurd (true≢false (sym (rw (p, q) at h)))
    go false p true q true r = absurd (true≢false (sym (rw (p, q, r) at h)))
    go false p true q false r = value-inner k q r

-- the vertex that fires for an outlet is one
firer-outlet : (c : Code) (b k x : ℕ) → (f : Firer c b k x) → is_outlet (kind_at c x) ≡ true → f.vertex.outlet ≡ true
firer-outlet c b k x f o = go (at-shape c b k f.vertex f.stands).0 (subst (λ y. is_outlet (kind_at c y) ≡ true) (sym f.of_node) o)
  where
    go : Shape f.vertex.node (kind_at c f.vertex.node) f.vertex → is_outlet (kind_at c f.vertex.node) ≡ true → f.vertex.outlet ≡ true
    go (inl (e, inl p)) h = sym (ap (λ (w : Vertex). w.outlet) p)
    go (inl (e, inr p)) h = absurd (true≢false (ap (λ (w : Vertex). w.inlet) p ∙ f.no_inlet))
    go (inr (e, p)) h = sym (ap (λ (w : Vertex). w.outlet) p) ∙ h

-- ---- lists

-- what stands at a place is an element
index-in : {X : Type 0} (xs : List X) (k : ℕ) (d : X) → k < length xs → In (get_or xs k d) xs
index-in [] k d h = absurd (omega arith)
index-in (x ∷ xs) zero d h = inl refl
index-in (x ∷ xs) (suc k) d h = inr (index-in xs k d (omega arith))

-- elements that stand once differ
distinct-differ : {X : Type 0} (xs : List X) → Distinct xs → AllPairs (λ x y. x ≢ y) xs
distinct-differ [] d i j e p q = absurd (omega arith)
distinct-differ (x ∷ xs) d i zero e p q = absurd (omega arith)
distinct-differ (x ∷ xs) d zero (suc j) e p q = λ r. d.0 (subst (λ z. In z xs) (sym r) (index-in xs j e (omega arith)))
distinct-differ (x ∷ xs) d (suc i) (suc j) e p q = distinct-differ xs d.1 i j e (omega arith) (omega arith)

-- different elements become different ones
distinct-map : {X Y : Type 0} (f : X → Y) (xs : List X) → Distinct xs → ((x y : X) → In x xs → In y xs → f x ≡ f y → x ≡ y) → Distinct (map f xs)
distinct-map f [] d h = tt
distinct-map f (x ∷ xs) d h = (
  λ m. let r = in-map f (f x) xs m in d.0 (subst (λ z. In z xs) (h r.0 x (inr r.1) (inl refl) r.2) r.1),
  distinct-map f xs d.1 (λ y z a b. h y z (inr a) (inr b)),
)

-- lengths of mapped and joined lists
length-both : {X Y : Type 0} (f g : X → Y) (xs ys : List X) → length (map f xs ++ map g ys) ≡ length xs + length ys
length-both f g [] [] = refl
length-both f g [] (y ∷ ys) = let e = length-both f g [] ys in let d : length (map g ys) ≡ length ys = ap (λ n. n) (tail e) in omega arith
  where
    tail : length (map g ys) ≡ 0 + length ys → length (map g ys) ≡ length ys
    tail h = omega arith
length-both f g (x ∷ xs) ys = let e = length-both f g xs ys in omega arith

module _ (g : Graph) (args : List ℕ) (s : State) (reached : IsReached g (singles g) args s) where
  -- a node that fired, as an instance
  abbrev own : ℕ × ℕ → Instance
  own p = elim (is_outlet (kind_at (its_code g s.world p.0) p.1)) [ true ↦ Of_firer (path_of s.world p.0) p.1 | false ↦ Of_giver (path_of s.world p.0) p.1 ]

  -- an inlet that got its word
  abbrev give : ℕ × ℕ → Instance
  give p = Of_giver (path_of s.world p.0) p.1

  -- which of the two it is
  own-out : (p : ℕ × ℕ) → is_outlet (kind_at (its_code g s.world p.0) p.1) ≡ true → own p ≡ Of_firer (path_of s.world p.0) p.1
  own-out p h = rw (own, h) refl

  -- what is no outlet is charged as the giver of its own value
  own-in : (p : ℕ × ℕ) → is_outlet (kind_at (its_code g s.world p.0) p.1) ≡ false → own p ≡ Of_giver (path_of s.world p.0) p.1
  own-in p h = rw (own, h) refl

  -- equal nodes of activations that are there
  same-node : (p q : ℕ × ℕ) → IsThere s.world p.0 → IsThere s.world q.0 → path_of s.world p.0 ≡ path_of s.world q.0 → p.1 ≡ q.1 → p ≡ q
  same-node p q a b e d = pair (reached.activations.paths_differ p.0 q.0 a b e) d
    where
      pair : p.0 ≡ q.0 → p.1 ≡ q.1 → p ≡ q
      pair x y = ap₂ (λ (a b : ℕ). (a, b)) x y

  -- equal givers have one path and one node
  givers-one : {a b : Path} {x y : ℕ} → Of_giver a x ≡ Of_giver b y → (a ≡ b) × (x ≡ y)
  givers-one e = (cc, cc)

  -- and so have equal firers
  firers-one : {a b : Path} {x y : ℕ} → Of_firer a x ≡ Of_firer b y → (a ≡ b) × (x ≡ y)
  firers-one e = (cc, cc)

  -- a firer is no giver
  mixed : {a b : Path} {x y : ℕ} → Of_firer a x ≡ Of_giver b y → ⊥
  mixed e = cc

  -- what two nodes are charged as differs, unless they are one
  own-one : (p q : ℕ × ℕ) → IsThere s.world p.0 → IsThere s.world q.0 → own p ≡ own q → p ≡ q
  own-one p q a b e = go (is_outlet (kind_at (its_code g s.world p.0) p.1)) refl (is_outlet (kind_at (its_code g s.world q.0) q.1)) refl
    where
      go : (t : Bool) → is_outlet (kind_at (its_code g s.world p.0) p.1) ≡ t → (u : Bool) → is_outlet (kind_at (its_code g s.world q.0) q.1) ≡ u → p ≡ q
      go true h true k = let r = firers-one (sym (own-out p h) ∙ (e ∙ own-out q k)) in same-node p q a b r.0 r.1
      go false h false k = let r = givers-one (sym (own-in p h) ∙ (e ∙ own-in q k)) in same-node p q a b r.0 r.1
      go true h false k = absurd (mixed (sym (own-out p h) ∙ (e ∙ own-in q k)))
      go false h true k = absurd (mixed (sym (own-out q k) ∙ (sym e ∙ own-in p h)))

  -- a node with a word has a value told
  told-value : (i x : ℕ) → IsThere s.world i → has_word s.world i x ≡ true → IsActive (Tells g (singles g) s) (Of_giver (path_of s.world i) x)
  told-value i x l h =
      let r = has-word (activation_at s.world i).words x h in
      (meant_at s.world (kind_at (its_code g s.world i) x) (depth_at (its_code g s.world i) x) r.0, (i, (l, refl), (r.0, r.1, refl)))

  -- words of operands mean values
  have-words : (i : ℕ) (xs : List ℕ) → HaveSome s i xs → (vs : List Value) × HaveWords g s.world i xs vs
  have-words i [] h = ([], tt)
  have-words i (x ∷ xs) (a, h) =
      let r = have-words i xs h in
      (meant_at s.world (kind_at (its_code g s.world i) x) (depth_at (its_code g s.world i) x) a.0 ∷ r.0, ((a.0, a.1, refl), r.1))

  -- an outlet that fired has run
  outlet-ran : (i x : ℕ) → (h : HasFired g s i x) → is_outlet (kind_at (its_code g s.world i) x) ≡ true → outlet_ran g (singles g) s i x ≡ true
  outlet-ran i x h o =
      in-any (λ y. has_run s i b (class_of (parts_of_act g (singles g) s i b) y)) (outlet_place (block_of_act g s i b) x) h.place
      (filter-in (λ y. (vertex_at (block_of_act g s i b) y).outlet && ((vertex_at (block_of_act g s i b) y).node == x)) h.place
      (places (block_of_act g s i b))
      (below-in h.place (length (vertices_in c b)) (firer-within c b h.place x f))
      (true-both (vertex_at (block_of_act g s i b) h.place).outlet ((vertex_at (block_of_act g s i b) h.place).node == x)
      (ap (λ (z : _). (or_vertex z).outlet) f.stands ∙ firer-outlet c b h.place x f o)
      (eq-number (vertex_at (block_of_act g s i b) h.place).node x (ap (λ (z : _). (or_vertex z).node) f.stands ∙ f.of_node))))
      (subst (λ z. has_run s i b z ≡ true) (sym class) (subst (λ z. has_run s i z h.place ≡ true) (sym same) h.ran))
    where
      c : Code
      c = its_code g s.world i

      b : ℕ
      b = block_at c x

      same : block_at (its_code g s.world i) x ≡ h.block
      same = firer-block (its_code g s.world i) h.block h.place x h.firer

      f : Firer (its_code g s.world i) (block_at (its_code g s.world i) x) h.place x
      f = subst (λ z. Firer (its_code g s.world i) z h.place x) (sym same) h.firer

      class : class_of (parts_of_act g (singles g) s i (block_at (its_code g s.world i) x)) h.place ≡ h.place
      class =
          let r = reached.words.runs_there i h.block h.place h.ran in
          let k = reached.activations.blocks i h.block h.act r.1 in
          ap (λ (ps : Parts). class_of ps h.place)
          (parts-single g (activation_at s.world i).code (block_at (its_code g s.world i) x) (reached.activations.codes i h.act)
          (subst (λ z. z < length (its_code g s.world i).owners) (sym same) k))
          ∙ single-class (length (vertices_in (its_code g s.world i) (block_at (its_code g s.world i) x))) h.place
          (firer-within (its_code g s.world i) (block_at (its_code g s.world i) x) h.place x f)

  -- each instance is active
  own-active : (i x : ℕ) → HasFired g s i x → IsActive (Tells g (singles g) s) (own (i, x))
  own-active i x h = go (is_outlet (kind_at (its_code g s.world i) x)) refl
    where
      go : (t : Bool) → is_outlet (kind_at (its_code g s.world i) x) ≡ t → IsActive (Tells g (singles g) s) (own (i, x))
      go true p =
          let r = outlet-ran i x h p in
          let v = have-words i (operands_of (its_code g s.world i) (kind_at (its_code g s.world i) x)) (reached.words.operands_ready i x r) in
          subst (IsActive (Tells g (singles g) s)) (sym (own-out (i, x) p)) (v.0, (i, (h.act, refl), p, r, v.1))
      go false p = subst (IsActive (Tells g (singles g) s)) (sym (own-in (i, x) p))
          (told-value i x h.act (h.gave (fires-inner (kind_at (its_code g s.world i) x)
          (firer-fires (its_code g s.world i) h.block h.place x h.firer) p)))

  -- what fired is no inlet that got a word
  own-give : (p q : ℕ × ℕ) → HasFired g s p.0 p.1 → HasReceived g s q.0 q.1 → own p ≡ give q → ⊥
  own-give p q h k e = go (is_outlet (kind_at (its_code g s.world p.0) p.1)) refl
    where
      go : (t : Bool) → is_outlet (kind_at (its_code g s.world p.0) p.1) ≡ t → ⊥
      go true d = mixed (sym (own-out p d) ∙ e)
      go false d =
          let r = givers-one (sym (own-in p d) ∙ e) in
          let z = same-node p q h.act k.inlet.0 r.0 r.1 in
          let n = inner-no_inlet (kind_at (its_code g s.world p.0) p.1) (fires-inner (kind_at (its_code g s.world p.0) p.1)
          (firer-fires (its_code g s.world p.0) h.block h.place p.1 h.firer) d) in
          true≢false (sym (subst (λ (y : ℕ × ℕ). is_inlet (kind_at (its_code g s.world y.0) y.1) ≡ true) (sym z) k.inlet.1) ∙ n)

  -- so the events are charged
  pub charged-is : (made : ℕ) → Charged g s made → IsCharged g (singles g) s made
  charged-is made h = (
    map own h.fired ++ map give h.received,
    record {
      different = distinct-differ (map own h.fired ++ map give h.received) distinct;
      active = active;
    },
    let e = length-both own give h.fired h.received in let l = h.bound in omega arith,
  )
    where
      apart : (y : Instance) → In y (map own h.fired) → In y (map give h.received) → ⊥
      apart y a b =
          let p = in-map own y h.fired a in
          let q = in-map give y h.received b in
          own-give p.0 q.0 (h.all_fired p.0.0 p.0.1 p.1) (h.all_received q.0.0 q.0.1 q.1) (p.2 ∙ sym q.2)

      distinct : Distinct (map own h.fired ++ map give h.received)
      distinct = distinct-append (map own h.fired) (map give h.received)
          (distinct-map own h.fired h.fired_once (λ p q a b e. own-one p q (h.all_fired p.0 p.1 a).act (h.all_fired q.0 q.1 b).act e))
          (distinct-map give h.received h.received_once (λ p q a b e. let r = givers-one e in
          same-node p q (h.all_received p.0 p.1 a).inlet.0 (h.all_received q.0 q.1 b).inlet.0 r.0 r.1)) apart

      each : (y : Instance) → In y (map own h.fired ++ map give h.received) → IsActive (Tells g (singles g) s) y
      each y m = elim (in-append y (map own h.fired) (map give h.received) m) [
        | inl a ↦ (let p = in-map own y h.fired a in subst (IsActive (Tells g (singles g) s)) p.2 (own-active p.0.0 p.0.1 (h.all_fired p.0.0 p.0.1 p.1)))
        | inr b ↦ (let q = in-map give y h.received b in let k = h.all_received q.0.0 q.0.1 q.1 in
            subst (IsActive (Tells g (singles g) s)) q.2 (told-value q.0.0 q.0.1 k.inlet.0 k.word))
      ]

      active : All (IsActive (Tells g (singles g) s)) (map own h.fired ++ map give h.received)
      active k d l = each _ (index-in (map own h.fired ++ map give h.received) k d l)
