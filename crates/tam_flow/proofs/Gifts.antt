-- What a firing gives: the nodes that get a word, the word, and the block that is entered; all else of the world stays.
use Rattle.std.proofs.Common.{◌≡◌, ℕ, zero, suc, ◌<◌, true, List, [], ◌∷◌, length, slice_get, option_to_list, Some, None, refl, sym, ap, ◌∙◌, arith}
use Rattle.std.proofs.Common.{subst, inl, inr, ◌⊎◌, ⊎_elim}
use Rattle.tam_word.specs.Lists.{changed_at}
use Rattle.tam_word.specs.Words.{meaning}
use Rattle.tam_graph.specs.declared.kind.Kind.{Kind}
use Rattle.tam_graph.specs.declared.kind.Kind.TheVariants.{Const, Op as Operate, Seq, Call, Arg, Give, Alloc, Fetch, Store, Cond, Switch, Leave}
use Rattle.tam_graph.specs.Graphs.{Graph, Code, chosen_branch, node_in, owner_of, block_at, is_enter}
use Rattle.tam_world.specs.Worlds.{World, ActivationState, or_activation, activation_at, its_code, word_of, has_entered, with_word, with_block, got, all_got}
use Rattle.tam_world.specs.Worlds.{entered, merges_of, firing_of}
use Rattle.tam_flow.specs.Reached.{IsThere}
use Rattle.tam_word.proofs.Members.{In}
use Rattle.tam_word.proofs.Each.{length-changed_at}
use Rattle.tam_word.proofs.PutAt.{put_at-cases}
use Rattle.tam_flow.proofs.ActivationLists.{was_entered, entered-here, entered-stays, entered-cases, word_among, word-here}
use Rattle.tam_flow.proofs.Changes.{changed-cases}

-- the nodes that get a word by a firing of node x, and the word
abbrev pub gift : Code → ℕ → Kind → List ℕ → List ℕ × ℕ
gift c x (Const v) [] = (x ∷ [], v)
gift c x (Operate o a b) (u ∷ v ∷ []) = (x ∷ [], meaning o u v)
gift c x (Seq a b) (u ∷ v ∷ []) = (x ∷ [], u)
gift c x (Switch d k a) (u ∷ v ∷ []) = (node_in c (chosen_branch c d u) (is_enter k), v)
gift c x (Leave k a) (v ∷ []) = (merges_of c k (owner_of c (block_at c x)), v)
gift c x k vs = ([], 0)

-- the block that is entered by it, as a list of at most one
abbrev pub opens : Code → ℕ → Kind → List ℕ → List ℕ
opens c x (Cond p y n) (v ∷ []) = chosen_branch c x v ∷ []
opens c x k vs = []

-- several blocks are entered
abbrev pub all_entered : World → ℕ → List ℕ → World
all_entered w i [] = w
all_entered w i (b ∷ bs) = all_entered (entered w i b) i bs

-- the world with what a firing gives
abbrev pub with_gift : World → ℕ → List ℕ × ℕ → List ℕ → World
with_gift w i gave bs = all_entered (all_got w i gave.0 gave.1) i bs

-- it is the world that the firing leaves
pub world-firing : (g : Graph) (w : World) (i x : ℕ) (k : Kind) (vs : List ℕ)
    → (firing_of g w i x k vs).world ≡ with_gift w i (gift (its_code g w i) x k vs) (opens (its_code g w i) x k vs)
world-firing g w i x (Const v) [] = refl
world-firing g w i x (Operate o a b) (u ∷ v ∷ []) = refl
world-firing g w i x (Seq a b) (u ∷ v ∷ []) = refl
world-firing g w i x (Call c) [] = refl
world-firing g w i x (Arg f k a) (v ∷ p ∷ []) = refl
world-firing g w i x (Give k a) (v ∷ []) = refl
world-firing g w i x (Alloc n) (v ∷ []) = refl
world-firing g w i x (Fetch a j) (u ∷ v ∷ []) = refl
world-firing g w i x (Store a j b) (t ∷ u ∷ v ∷ []) = refl
world-firing g w i x (Cond p y n) (v ∷ []) = refl
world-firing g w i x (Switch d k a) (u ∷ v ∷ []) = refl
world-firing g w i x (Leave k a) (v ∷ []) = refl
world-firing g w i x k vs = refl

-- ---- what is left

-- a later world has the activations of an earlier one, with their codes, callers and calls
pub record SameFrames (w v : World) : Type 0 where
  pub as_many : length v.activations ≡ length w.activations
  pub code : (j : ℕ) → (activation_at v j).code ≡ (activation_at w j).code
  pub caller : (j : ℕ) → (activation_at v j).caller ≡ (activation_at w j).caller
  pub call : (j : ℕ) → (activation_at v j).call ≡ (activation_at w j).call

-- nodes of activation i got the word u; all else is as it was
pub record HaveGot (w v : World) (i : ℕ) (ys : List ℕ) (u : ℕ) : Type 0 where
  pub frames : SameFrames w v
  pub blocks : (j b : ℕ) → has_entered v j b ≡ has_entered w j b
  pub words : (j y : ℕ) → (word_of v j y ≡ word_of w j y) ⊎ ((j ≡ i) × In y ys × (word_of v j y ≡ u ∷ []))
  pub given : (y : ℕ) → IsThere w i → In y ys → word_of v i y ≡ u ∷ []

-- activation i entered blocks; all else is as it was
pub record HasOpened (w v : World) (i : ℕ) (bs : List ℕ) : Type 0 where
  pub frames : SameFrames w v
  pub words : (j y : ℕ) → word_of v j y ≡ word_of w j y
  pub stay : (j b : ℕ) → has_entered w j b ≡ true → has_entered v j b ≡ true
  pub new : (j b : ℕ) → has_entered v j b ≡ true → (has_entered w j b ≡ true) ⊎ ((j ≡ i) × In b bs)
  pub opened : (b : ℕ) → IsThere w i → In b bs → has_entered v i b ≡ true

-- the same activations
frames-same : (w : World) → SameFrames w w
frames-same w = record { as_many = refl; code = λ j. refl; caller = λ j. refl; call = λ j. refl }

-- and through a world between
frames-on : (u v w : World) → SameFrames u v → SameFrames v w → SameFrames u w
frames-on u v w h k = record {
  as_many = k.as_many ∙ h.as_many;
  code = λ j. k.code j ∙ h.code j;
  caller = λ j. k.caller j ∙ h.caller j;
  call = λ j. k.call j ∙ h.call j;
}

-- the changed one at its place
changed-there : (n : ℕ) (f : ActivationState → ActivationState) (xs : List ActivationState) → n < length xs
    → or_activation (slice_get (changed_at n f xs) n) ≡ f (or_activation (slice_get xs n))
changed-there n f [] l = absurd (omega arith)
changed-there zero f (x ∷ xs) l = refl
changed-there (suc n) f (x ∷ xs) l = changed-there n f xs (omega arith)

-- a word of an activation in which one node got a word
words-put : (x u y : ℕ) (a : ActivationState)
    → (word_among (with_word x u a).words y ≡ word_among a.words y) ⊎ ((x ≡ y) × (word_among (with_word x u a).words y ≡ u ∷ []))
words-put x u y a =
    ⊎_elim (λ e. inr (e, subst (λ z. word_among (with_word x u a).words z ≡ u ∷ []) e (word-here x u a.words))) (λ k. inl (ap option_to_list k.1))
    (put_at-cases None x (Some u) a.words y)

module _ (w : World) (i : ℕ) where
  -- one node gets a word
  pub got-one : (x u : ℕ) → HaveGot w (got w i x u) i (x ∷ []) u
  got-one x u = record {
    frames = record {
      as_many = length-changed_at i (with_word x u) w.activations;
      code = λ j. ⊎_elim (λ e. ap (λ a. a.code) e) (λ e. ap (λ a. a.code) e.1) (cases j);
      caller = λ j. ⊎_elim (λ e. ap (λ a. a.caller) e) (λ e. ap (λ a. a.caller) e.1) (cases j);
      call = λ j. ⊎_elim (λ e. ap (λ a. a.call) e) (λ e. ap (λ a. a.call) e.1) (cases j);
    };
    blocks = λ j b. ⊎_elim (λ e. ap (λ a. was_entered a.entered b) e) (λ e. ap (λ a. was_entered a.entered b) e.1) (cases j);
    words = λ j y. ⊎_elim (λ e. inl (ap (λ a. word_among a.words y) e)) (λ e. ⊎_elim (λ k. inl (ap (λ a. word_among a.words y) e.1 ∙ k))
        (λ k. inr (sym e.0, inl k.0, ap (λ a. word_among a.words y) e.1 ∙ k.1)) (words-put x u y (activation_at w j))) (cases j);
    given = λ y t m. here y t m;
  }
    where
      cases : (j : ℕ) → (activation_at (got w i x u) j ≡ activation_at w j) ⊎ ((i ≡ j) × (activation_at (got w i x u) j ≡ with_word x u (activation_at w j)))
      cases j = changed-cases i j (with_word x u) w.activations

      here : (y : ℕ) → IsThere w i → In y (x ∷ []) → word_of (got w i x u) i y ≡ u ∷ []
      here y t (inl e) = subst (λ z. word_of (got w i x u) i z ≡ u ∷ []) e
          (ap (λ a. word_among a.words x) (changed-there i (with_word x u) w.activations t) ∙ word-here x u (activation_at w i).words)
      here y t (inr e) = absurd e

  -- a block is entered
  opened-one : (b : ℕ) → HasOpened w (entered w i b) i (b ∷ [])
  opened-one b = record {
    frames = record {
      as_many = length-changed_at i (with_block b) w.activations;
      code = λ j. ⊎_elim (λ e. ap (λ a. a.code) e) (λ e. ap (λ a. a.code) e.1) (cases j);
      caller = λ j. ⊎_elim (λ e. ap (λ a. a.caller) e) (λ e. ap (λ a. a.caller) e.1) (cases j);
      call = λ j. ⊎_elim (λ e. ap (λ a. a.call) e) (λ e. ap (λ a. a.call) e.1) (cases j);
    };
    words = λ j y. ⊎_elim (λ e. ap (λ a. word_among a.words y) e) (λ e. ap (λ a. word_among a.words y) e.1) (cases j);
    stay = λ j d h. ⊎_elim (λ e. ap (λ a. was_entered a.entered d) e ∙ h)
        (λ e. ap (λ a. was_entered a.entered d) e.1 ∙ entered-stays b (activation_at w j).entered d h) (cases j);
    new = λ j d h. ⊎_elim (λ e. inl (sym (ap (λ a. was_entered a.entered d) e) ∙ h))
        (λ e. ⊎_elim (λ k. inr (sym e.0, inl k)) inl (entered-cases b (activation_at w j).entered d (sym (ap (λ a. was_entered a.entered d) e.1) ∙ h)))
        (cases j);
    opened = λ d t m. here d t m;
  }
    where
      cases : (j : ℕ) → (activation_at (entered w i b) j ≡ activation_at w j) ⊎ ((i ≡ j) × (activation_at (entered w i b) j ≡ with_block b (activation_at w j)))
      cases j = changed-cases i j (with_block b) w.activations

      here : (d : ℕ) → IsThere w i → In d (b ∷ []) → has_entered (entered w i b) i d ≡ true
      here d t (inl e) = subst (λ z. has_entered (entered w i b) i z ≡ true) e
          (ap (λ a. was_entered a.entered b) (changed-there i (with_block b) w.activations t) ∙ entered-here b (activation_at w i).entered)
      here d t (inr e) = absurd e

-- one node and then more get a word
got-more : (w v : World) (i x : ℕ) (xs : List ℕ) (u : ℕ) → HaveGot (got w i x u) v i xs u → HaveGot w v i (x ∷ xs) u
got-more w v i x xs u rest = record {
  frames = frames-on w (got w i x u) v one.frames rest.frames;
  blocks = λ j b. rest.blocks j b ∙ one.blocks j b;
  words = λ j y. ⊎_elim (λ e. ⊎_elim (λ k. inl (e ∙ k)) (λ k. inr (k.0, first y k.1, e ∙ k.2)) (one.words j y)) (λ k. inr (k.0, inr k.1, k.2)) (rest.words j y);
  given = λ y t m. here y t m;
}
  where
    one : HaveGot w (got w i x u) i (x ∷ []) u
    one = got-one w i x u

    first : (y : ℕ) → In y (x ∷ []) → In y (x ∷ xs)
    first y (inl e) = inl e
    first y (inr e) = absurd e

    here : (y : ℕ) → IsThere w i → In y (x ∷ xs) → word_of v i y ≡ u ∷ []
    here y t (inl e) = ⊎_elim (λ k. k ∙ one.given y t (inl e)) (λ k. k.2) (rest.words i y)
    here y t (inr m) = rest.given y (subst (λ n. i < n) (sym one.frames.as_many) t) m

-- several nodes get a word
got-all : (w : World) (i : ℕ) (ys : List ℕ) (u : ℕ) → HaveGot w (all_got w i ys u) i ys u
got-all w i [] u = record { frames = frames-same w; blocks = λ j b. refl; words = λ j y. inl refl; given = λ y t m. absurd m }
got-all w i (x ∷ xs) u = got-more w (all_got w i (x ∷ xs) u) i x xs u (got-all (got w i x u) i xs u)

-- one block and then more are entered
opened-more : (w v : World) (i d : ℕ) (ds : List ℕ) → HasOpened (entered w i d) v i ds → HasOpened w v i (d ∷ ds)
opened-more w v i d ds rest = record {
  frames = frames-on w (entered w i d) v one.frames rest.frames;
  words = λ j y. rest.words j y ∙ one.words j y;
  stay = λ j b h. rest.stay j b (one.stay j b h);
  new = λ j b h. ⊎_elim (λ k. ⊎_elim inl (λ m. inr (m.0, first b m.1)) (one.new j b k)) (λ k. inr (k.0, inr k.1)) (rest.new j b h);
  opened = λ b t m. here b t m;
}
  where
    one : HasOpened w (entered w i d) i (d ∷ [])
    one = opened-one w i d

    first : (b : ℕ) → In b (d ∷ []) → In b (d ∷ ds)
    first b (inl e) = inl e
    first b (inr e) = absurd e

    here : (b : ℕ) → IsThere w i → In b (d ∷ ds) → has_entered v i b ≡ true
    here b t (inl e) = rest.stay i b (one.opened b t (inl e))
    here b t (inr m) = rest.opened b (subst (λ n. i < n) (sym one.frames.as_many) t) m

-- several blocks are entered
opened-all : (w : World) (i : ℕ) (bs : List ℕ) → HasOpened w (all_entered w i bs) i bs
opened-all w i [] = record { frames = frames-same w; words = λ j y. refl; stay = λ j b h. h; new = λ j b h. inl h; opened = λ b t m. absurd m }
opened-all w i (d ∷ ds) = opened-more w (all_entered w i (d ∷ ds)) i d ds (opened-all (entered w i d) i ds)

-- what a firing leaves: the nodes given have the word, the block opened is entered, all else is as it was
pub record Leaves (w v : World) (i : ℕ) (gave : List ℕ × ℕ) (bs : List ℕ) : Type 0 where
  pub frames : SameFrames w v
  pub words : (j y : ℕ) → (word_of v j y ≡ word_of w j y) ⊎ ((j ≡ i) × In y gave.0 × (word_of v j y ≡ gave.1 ∷ []))
  pub given : (y : ℕ) → IsThere w i → In y gave.0 → word_of v i y ≡ gave.1 ∷ []
  pub stay : (j b : ℕ) → has_entered w j b ≡ true → has_entered v j b ≡ true
  pub new : (j b : ℕ) → has_entered v j b ≡ true → (has_entered w j b ≡ true) ⊎ ((j ≡ i) × In b bs)
  pub opened : (b : ℕ) → IsThere w i → In b bs → has_entered v i b ≡ true

-- so it is with what is given
leaves-gift : (w : World) (i : ℕ) (gave : List ℕ × ℕ) (bs : List ℕ) → Leaves w (with_gift w i gave bs) i gave bs
leaves-gift w i gave bs = record {
  frames = frames-on w v (with_gift w i gave bs) first.frames then.frames;
  words = λ j y. ⊎_elim (λ e. inl (then.words j y ∙ e)) (λ k. inr (k.0, k.1, then.words j y ∙ k.2)) (first.words j y);
  given = λ y t m. then.words i y ∙ first.given y t m;
  stay = λ j b h. then.stay j b (first.blocks j b ∙ h);
  new = λ j b h. ⊎_elim (λ k. inl (sym (first.blocks j b) ∙ k)) inr (then.new j b h);
  opened = λ b t m. then.opened b (subst (λ n. i < n) (sym first.frames.as_many) t) m;
}
  where
    v : World
    v = all_got w i gave.0 gave.1

    first : HaveGot w (all_got w i gave.0 gave.1) i gave.0 gave.1
    first = got-all w i gave.0 gave.1

    then : HasOpened (all_got w i gave.0 gave.1) (all_entered (all_got w i gave.0 gave.1) i bs) i bs
    then = opened-all (all_got w i gave.0 gave.1) i bs

-- and with a firing
pub leaves-firing : (g : Graph) (w : World) (i x : ℕ) (k : Kind) (vs : List ℕ)
    → Leaves w (firing_of g w i x k vs).world i (gift (its_code g w i) x k vs) (opens (its_code g w i) x k vs)
leaves-firing g w i x k vs =
    subst (λ v. Leaves w v i (gift (its_code g w i) x k vs) (opens (its_code g w i) x k vs)) (sym (world-firing g w i x k vs))
    (leaves-gift w i (gift (its_code g w i) x k vs) (opens (its_code g w i) x k vs))
