-- Each change of a world that has its reasons leaves a world that has them.
use Rattle.std.proofs.Common.{◌≡◌, ℕ, zero, suc, ◌<◌, true, false, ◌==◌, List, [], ◌∷◌, Some, length, slice_get, slice_set, refl, sym, ap, ◌∙◌, arith, subst}
use Rattle.std.proofs.Common.{inl, inr, ◌⊎◌, ⊎_elim}
use Rattle.std.proofs.lemmas.List.{length-append}
use Rattle.tam_word.specs.Lists.{changed_at}
use Rattle.tam_graph.specs.declared.kind.Kind.TheVariants.{Call}
use Rattle.tam_msgs.specs.Messages.{outside}
use Rattle.tam_istr.specs.Cells.{Cell}
use Rattle.tam_graph.specs.Graphs.{Graph, code_of, callee_of_kind}
use Rattle.tam_fire.specs.FiringRules.{Path, Begun, Entered, Fired, Holds, body_is_entered, call_begins, code_at, the_code, node_of}
use Rattle.tam_fire.proofs.Following.{holds-by}
use Rattle.tam_world.specs.Worlds.{World, ActivationState, begun, or_activation, activation_at, with_word, with_block, got, entered}
use Rattle.tam_flow.specs.Told.{path_of, IsNumber}
use Rattle.tam_flow.specs.Reached.{IsThere, cells_at, cell_at}
use Rattle.tam_word.proofs.Each.{get-left, get-last, length-changed_at, last-or_before}
use Rattle.tam_flow.proofs.ActivationLists.{was_entered, entered-cases, entered-first, word_among, word-cases}
use Rattle.tam_flow.proofs.Growing.{Grows, KeepsPlace, with_changed, grows-changed, word-keeps, block-keeps, with_begun, grows-begun, path-begun}
use Rattle.tam_flow.proofs.Justified.{IsValue, IsMade, IsCell, IsSoundWorld, value-later, made-later, cell-later}

-- where one element of a list is changed, each is what it was, or it is the changed one
pub changed-cases : (n i : ℕ) (f : ActivationState → ActivationState) (xs : List ActivationState)
    → (or_activation (slice_get (changed_at n f xs) i) ≡ or_activation (slice_get xs i))
    ⊎ ((n ≡ i) × (or_activation (slice_get (changed_at n f xs) i) ≡ f (or_activation (slice_get xs i))))
changed-cases n i f [] = inl refl
changed-cases zero zero f (x ∷ xs) = inr (refl, refl)
changed-cases zero (suc i) f (x ∷ xs) = inl refl
changed-cases (suc n) zero f (x ∷ xs) = inl refl
changed-cases (suc n) (suc i) f (x ∷ xs) = ⊎_elim inl (λ h. inr (ap suc h.0, h.1)) (changed-cases n i f xs)

-- where one element is set, each is what it was, or it is the one set
pub set-cases : {X : Type 0} (xs : List X) (n i : ℕ) (y : X)
    → (slice_get (slice_set xs n y) i ≡ slice_get xs i) ⊎ ((n ≡ i) × (slice_get (slice_set xs n y) i ≡ Some y))
set-cases [] n i y = inl refl
set-cases (x ∷ xs) zero zero y = inr (refl, refl)
set-cases (x ∷ xs) zero (suc i) y = inl refl
set-cases (x ∷ xs) (suc n) zero y = inl refl
set-cases (x ∷ xs) (suc n) (suc i) y = ⊎_elim inl (λ h. inr (ap suc h.0, h.1)) (set-cases xs n i y)

-- a changed activation's caller and call
caller-changed : (f : ActivationState → ActivationState) → KeepsPlace f → (n i : ℕ) (xs : List ActivationState)
    → ((or_activation (slice_get (changed_at n f xs) i)).caller ≡ (or_activation (slice_get xs i)).caller)
    × ((or_activation (slice_get (changed_at n f xs) i)).call ≡ (or_activation (slice_get xs i)).call)
caller-changed f k n i xs =
    ⊎_elim (λ e. (ap (λ a. a.caller) e, ap (λ a. a.call) e)) (λ e. (ap (λ a. a.caller) e.1 ∙ k.caller _, ap (λ a. a.call) e.1 ∙ k.call _))
    (changed-cases n i f xs)

module _ (g : Graph) (args : List ℕ) where
  -- what an activation has to have of a block that it entered, and of a word
  abbrev pub BlockHolds : Path → ℕ → Type 0
  BlockHolds q b = Holds g args (Entered q b) × (b < length (the_code g q).owners)

  -- one activation is changed
  pub sound-changed : (w : World) (n : ℕ) (f : ActivationState → ActivationState) → KeepsPlace f → IsSoundWorld g args w
      → ((b : ℕ) → IsThere w n → was_entered (f (activation_at w n)).entered b ≡ true → BlockHolds (path_of w n) b)
      → ((x u : ℕ) → IsThere w n → word_among (f (activation_at w n)).words x ≡ u ∷ [] → IsValue g args w (path_of w n) x u)
      → IsSoundWorld g args (with_changed w n f)
  sound-changed w n f keeps sound new_block new_word = record {
    codes = λ i t. rw (grows.code i (back i t)) (sound.codes i (back i t));
    path_codes = λ i t. ap (code_at g) (grows.path i (back i t)) ∙ sound.path_codes i (back i t) ∙ sym (grows.code i (back i t));
    callers = λ i t e.
        let c = caller-changed f keeps n i w.activations in
        let d : ((activation_at w i).caller == outside) ≡ false = rw c.0 at e in
        let r = sound.callers i (back i t) d in
        rw (c.0, c.1) (grows.there _ r.0, grows.path i (back i t) ∙ r.1 ∙ ap (λ p. (activation_at w i).call ∷ p) (sym (grows.path _ r.0)));
    began = λ i t. rw (grows.path i (back i t)) (sound.began i (back i t));
    blocks = λ i b t h. subst (λ q. BlockHolds q b) (sym (grows.path i (back i t))) (block i b (back i t) h (changed-cases n i f w.activations));
    words = λ i x u t h.
        subst (λ q. IsValue g args (with_changed w n f) q x u) (sym (grows.path i (back i t)))
        (value-later g args w (with_changed w n f) grows (path_of w i) x u (word i x u (back i t) h (changed-cases n i f w.activations)));
    as_many = sound.as_many;
    made = λ a l. made-later g args w (with_changed w n f) grows a (length (cells_at w a)) (sound.made a l);
    cells = λ a j c e. cell-later g args w (with_changed w n f) grows a j c (sound.cells a j c e);
  }
    where
      grows : Grows w (with_changed w n f)
      grows = grows-changed w n f keeps

      back : (i : ℕ) → IsThere (with_changed w n f) i → IsThere w i
      back i t = omega (arith, length-changed_at n f w.activations, t)

      block : (i b : ℕ) → IsThere w i → was_entered (activation_at (with_changed w n f) i).entered b ≡ true
          → (activation_at (with_changed w n f) i ≡ activation_at w i) ⊎ ((n ≡ i) × (activation_at (with_changed w n f) i ≡ f (activation_at w i)))
          → BlockHolds (path_of w i) b
      block i b t h (inl e) = sound.blocks i b t (subst (λ a. was_entered a.entered b ≡ true) e h)
      block i b t h (inr e) =
          subst (λ m. BlockHolds (path_of w m) b) e.0
          (new_block b (subst (λ m. IsThere w m) (sym e.0) t)
          (subst (λ m. was_entered (f (activation_at w m)).entered b ≡ true) (sym e.0) (subst (λ a. was_entered a.entered b ≡ true) e.1 h)))

      word : (i x u : ℕ) → IsThere w i → word_among (activation_at (with_changed w n f) i).words x ≡ u ∷ []
          → (activation_at (with_changed w n f) i ≡ activation_at w i) ⊎ ((n ≡ i) × (activation_at (with_changed w n f) i ≡ f (activation_at w i)))
          → IsValue g args w (path_of w i) x u
      word i x u t h (inl e) = sound.words i x u t (subst (λ a. word_among a.words x ≡ u ∷ []) e h)
      word i x u t h (inr e) =
          subst (λ m. IsValue g args w (path_of w m) x u) e.0
          (new_word x u (subst (λ m. IsThere w m) (sym e.0) t)
          (subst (λ m. word_among (f (activation_at w m)).words x ≡ u ∷ []) (sym e.0) (subst (λ a. word_among a.words x ≡ u ∷ []) e.1 h)))

  -- a node gets a word that has its reason
  pub sound-got : (w : World) (i x v : ℕ) → IsSoundWorld g args w → IsValue g args w (path_of w i) x v → IsSoundWorld g args (got w i x v)
  sound-got w i x v sound value = sound-changed w i (with_word x v) (word-keeps x v) sound (λ b t h. sound.blocks i b t h) word
    where
      word : (y u : ℕ) → IsThere w i → word_among (with_word x v (activation_at w i)).words y ≡ u ∷ [] → IsValue g args w (path_of w i) y u
      word y u t h =
          ⊎_elim (λ e. subst (λ z. IsValue g args w (path_of w i) z u) e.0 (subst (λ z. IsValue g args w (path_of w i) x z) e.1 value)) (sound.words i y u t)
          (word-cases x v (activation_at w i).words y u h)

  -- an activation enters a block that it has reason to enter
  pub sound-entered : (w : World) (i b : ℕ) → IsSoundWorld g args w → BlockHolds (path_of w i) b → IsSoundWorld g args (entered w i b)
  sound-entered w i b sound holds = sound-changed w i (with_block b) (block-keeps b) sound block (λ x u t h. sound.words i x u t h)
    where
      block : (c : ℕ) → IsThere w i → was_entered (with_block b (activation_at w i)).entered c ≡ true → BlockHolds (path_of w i) c
      block c t h =
          ⊎_elim (λ e. subst (λ z. BlockHolds (path_of w i) z) e holds) (sound.blocks i c t) (entered-cases b (activation_at w i).entered c h)

  -- an activation begins for a call that fired
  pub sound-begun : (w : World) (c f x : ℕ) (q : Path) → IsSoundWorld g args w → (f == outside) ≡ false → IsNumber w q f → node_of g q x ≡ Call c
      → c < length g.codes
      → 0 < length (code_of g c).owners → Holds g args (Fired q x []) → IsSoundWorld g args (with_begun w c f x)
  sound-begun w c f x q sound inside number calls there opened fired = record {
    codes = λ i t. ⊎_elim (λ l. rw (grows.code i l) (sound.codes i l)) (λ e. subst (λ a. a.code < length g.codes) (sym (last i e)) there) (before i t);
    path_codes = λ i t.
        ⊎_elim (λ l. ap (code_at g) (grows.path i l) ∙ sound.path_codes i l ∙ sym (grows.code i l))
        (λ e. ap (code_at g) (path i e) ∙ ap callee_of_kind calls ∙ sym (ap (λ a. a.code) (last i e))) (before i t);
    callers = λ i t e. ⊎_elim (λ l. old_caller i l e) (λ d. new_caller i d) (before i t);
    began = λ i t. ⊎_elim (λ l. rw (grows.path i l) (sound.began i l)) (λ e. rw (path i e) (holds-by g args (call_begins calls) (fired, tt))) (before i t);
    blocks = λ i b t h. ⊎_elim (λ l. old_block i b l h) (λ e. new_block i b e h) (before i t);
    words = λ i y u t h. ⊎_elim (λ l. old_word i y u l h) (λ e. absurd (no_word i y u e h)) (before i t);
    as_many = sound.as_many;
    made = λ a l. made-later g args w v grows a (length (cells_at w a)) (sound.made a l);
    cells = λ a j d e. cell-later g args w v grows a j d (sound.cells a j d e);
  }
    where
      v : World
      v = with_begun w c f x

      grows : Grows w (with_begun w c f x)
      grows = grows-begun w c f x

      before : (i : ℕ) → IsThere (with_begun w c f x) i → IsThere w i ⊎ (i ≡ length w.activations)
      before i t = last-or_before i (length w.activations) (omega (arith, length-append w.activations (begun c f x ∷ []), t))

      last : (i : ℕ) → i ≡ length w.activations → activation_at (with_begun w c f x) i ≡ begun c f x
      last i e = subst (λ n. activation_at (with_begun w c f x) n ≡ begun c f x) (sym e) (ap or_activation (get-last w.activations (begun c f x)))

      same : (i : ℕ) → IsThere w i → activation_at (with_begun w c f x) i ≡ activation_at w i
      same i t = ap or_activation (get-left w.activations (begun c f x ∷ []) i t)

      path : (i : ℕ) → i ≡ length w.activations → path_of (with_begun w c f x) i ≡ x ∷ q
      path i e = subst (λ n. path_of (with_begun w c f x) n ≡ x ∷ q) (sym e) (path-begun w c f x inside ∙ ap (λ p. x ∷ p) number.1)

      old_caller : (i : ℕ) → IsThere w i → ((activation_at (with_begun w c f x) i).caller == outside) ≡ false
          → IsThere (with_begun w c f x) (activation_at (with_begun w c f x) i).caller
          × (path_of (with_begun w c f x) i ≡ (activation_at (with_begun w c f x) i).call ∷ path_of (with_begun w c f x)
          (activation_at (with_begun w c f x) i).caller)
      old_caller i l e =
          let r = sound.callers i l (subst (λ a. (a.caller == outside) ≡ false) (same i l) e) in
          subst (λ a. IsThere (with_begun w c f x) a.caller × (path_of (with_begun w c f x) i ≡ a.call ∷ path_of (with_begun w c f x) a.caller))
          (sym (same i l))
          (grows.there _ r.0, grows.path i l ∙ r.1 ∙ ap (λ p. (activation_at w i).call ∷ p) (sym (grows.path _ r.0)))

      new_caller : (i : ℕ) → i ≡ length w.activations
          → IsThere (with_begun w c f x) (activation_at (with_begun w c f x) i).caller
          × (path_of (with_begun w c f x) i ≡ (activation_at (with_begun w c f x) i).call ∷ path_of (with_begun w c f x)
          (activation_at (with_begun w c f x) i).caller)
      new_caller i e =
          subst (λ a. IsThere (with_begun w c f x) a.caller × (path_of (with_begun w c f x) i ≡ a.call ∷ path_of (with_begun w c f x) a.caller))
          (sym (last i e))
          (grows.there f number.0, path i e ∙ ap (λ p. x ∷ p) (sym (grows.path f number.0 ∙ number.1)))

      old_block : (i b : ℕ) → IsThere w i → was_entered (activation_at (with_begun w c f x) i).entered b ≡ true
          → BlockHolds (path_of (with_begun w c f x) i) b
      old_block i b l h = subst (λ p. BlockHolds p b) (sym (grows.path i l)) (sound.blocks i b l (subst (λ a. was_entered a.entered b ≡ true) (same i l) h))

      body : BlockHolds (x ∷ q) 0
      body = (
        holds-by g args body_is_entered (holds-by g args (call_begins calls) (fired, tt), tt),
        subst (λ n. 0 < length (code_of g n).owners)
            (sym (ap callee_of_kind calls)) opened,
      )

      new_block : (i b : ℕ) → i ≡ length w.activations → was_entered (activation_at (with_begun w c f x) i).entered b ≡ true
          → BlockHolds (path_of (with_begun w c f x) i) b
      new_block i b e h =
          subst (λ p. BlockHolds p b) (sym (path i e))
          (subst (λ d. BlockHolds (x ∷ q) d) (entered-first b (subst (λ a. was_entered a.entered b ≡ true) (last i e) h)) body)

      old_word : (i y u : ℕ) → IsThere w i → word_among (activation_at (with_begun w c f x) i).words y ≡ u ∷ []
          → IsValue g args (with_begun w c f x) (path_of (with_begun w c f x) i) y u
      old_word i y u l h =
          subst (λ p. IsValue g args (with_begun w c f x) p y u) (sym (grows.path i l))
          (value-later g args w (with_begun w c f x) grows (path_of w i) y u (sound.words i y u l (subst (λ a. word_among a.words y ≡ u ∷ []) (same i l) h)))

      no_word : (i y u : ℕ) → i ≡ length w.activations → word_among (activation_at (with_begun w c f x) i).words y ≡ u ∷ [] → ⊥
      no_word i y u e h = nil-cons (subst (λ a. word_among a.words y ≡ u ∷ []) (last i e) h)
        where
          nil-cons : {a : ℕ} {l : List ℕ} → [] ≡ a ∷ l → ⊥
          nil-cons r = cc

  -- the parts of a sound world that speak of its activations stay where arrays and makers change
  pub sound-arrays : (w v : World) → Grows w v → v.activations ≡ w.activations → IsSoundWorld g args w
      → length v.arrays ≡ length v.makers
      → ((a : ℕ) → a < length v.makers → IsMade g args v a (length (cells_at v a)))
      → ((a j : ℕ) (c : Cell) → cell_at v a j ≡ Some c → IsCell g args v a j c) → IsSoundWorld g args v
  sound-arrays w v grows e sound as_many made cells = record {
    codes = λ i t. subst (λ l. (or_activation (slice_get l i)).code < length g.codes) (sym e) (sound.codes i (back i t));
    path_codes = λ i t. ap (code_at g) (grows.path i (back i t)) ∙ sound.path_codes i (back i t) ∙ sym (grows.code i (back i t));
    callers = λ i t d.
        let r = sound.callers i (back i t) (subst (λ l. ((or_activation (slice_get l i)).caller == outside) ≡ false) e d) in
        subst (λ a. IsThere v a.caller × (path_of v i ≡ a.call ∷ path_of v a.caller)) (sym (same i))
        (grows.there _ r.0, grows.path i (back i t) ∙ r.1 ∙ ap (λ p. (activation_at w i).call ∷ p) (sym (grows.path _ r.0)));
    began = λ i t. subst (λ q. Holds g args (Begun q)) (sym (grows.path i (back i t))) (sound.began i (back i t));
    blocks = λ i b t h. subst (λ q. BlockHolds q b) (sym (grows.path i (back i t)))
        (sound.blocks i b (back i t) (subst (λ a. was_entered a.entered b ≡ true) (same i) h));
    words = λ i x u t h.
        subst (λ q. IsValue g args v q x u) (sym (grows.path i (back i t)))
        (value-later g args w v grows (path_of w i) x u (sound.words i x u (back i t) (subst (λ a. word_among a.words x ≡ u ∷ []) (same i) h)));
    as_many = as_many;
    made = made;
    cells = cells;
  }
    where
      back : (i : ℕ) → IsThere v i → IsThere w i
      back i t = subst (λ l. i < length l) e t

      same : (i : ℕ) → activation_at v i ≡ activation_at w i
      same i = ap (λ l. or_activation (slice_get l i)) e
