-- What the two lists of an activation say: which blocks it has entered, and which word each node has got; and what one more entry does to that.
use Rattle.std.proofs.Common.{◌≡◌, ℕ, zero, suc, Bool, true, false, List, [], ◌∷◌, Option, Some, None, slice_index_or, is_some, option_to_list, refl, sym, ap}
use Rattle.std.proofs.Common.{◌∙◌, inl, inr, ◌⊎◌, ⊎_elim, true≢false}
use Rattle.tam_word.specs.Lists.{put_at}
use Rattle.tam_word.proofs.PutAt.{put_at-here, put_at-cases}

-- ---- blocks

-- block b was entered
abbrev pub was_entered : List Bool → ℕ → Bool
was_entered blocks b = slice_index_or blocks b false

-- of one more block: it was entered
pub entered-here : (b : ℕ) (blocks : List Bool) → was_entered (put_at false b true blocks) b ≡ true
entered-here b blocks = put_at-here false b true blocks

-- the others stay
pub entered-stays : (b : ℕ) (blocks : List Bool) (c : ℕ) → was_entered blocks c ≡ true → was_entered (put_at false b true blocks) c ≡ true
entered-stays b blocks c h = ⊎_elim (λ e. ap (was_entered (put_at false b true blocks)) (sym e) ∙ entered-here b blocks) (λ k. k.1 ∙ h)
    (put_at-cases false b true blocks c)

-- and no other is new
pub entered-cases : (b : ℕ) (blocks : List Bool) (c : ℕ) → was_entered (put_at false b true blocks) c ≡ true → (b ≡ c) ⊎ (was_entered blocks c ≡ true)
entered-cases b blocks c h = ⊎_elim inl (λ k. inr (sym k.1 ∙ h)) (put_at-cases false b true blocks c)

-- an activation that begins has entered its body alone
pub entered-first : (b : ℕ) → was_entered (true ∷ []) b ≡ true → 0 ≡ b
entered-first zero h = refl
entered-first (suc b) h = absurd (true≢false (sym h))

-- ---- words

-- the word of node x, as a list of at most one
abbrev pub word_among : List (Option ℕ) → ℕ → List ℕ
word_among words x = option_to_list (slice_index_or words x None)

-- node x has a word
abbrev pub has_among : List (Option ℕ) → ℕ → Bool
has_among words x = is_some (slice_index_or words x None)

-- a node has no word, or one
pub word-shape : (words : List (Option ℕ)) (x : ℕ) → (word_among words x ≡ []) ⊎ ((v : ℕ) × (word_among words x ≡ v ∷ []))
word-shape words x = go (slice_index_or words x None)
  where
    go : (o : Option ℕ) → (option_to_list o ≡ []) ⊎ ((v : ℕ) × (option_to_list o ≡ v ∷ []))
    go None = inl refl
    go (Some v) = inr (v, refl)

-- a node that has a word has one
pub has-word : (words : List (Option ℕ)) (x : ℕ) → has_among words x ≡ true → (v : ℕ) × (word_among words x ≡ v ∷ [])
has-word words x h = go (slice_index_or words x None) h
  where
    go : (o : Option ℕ) → is_some o ≡ true → (v : ℕ) × (option_to_list o ≡ v ∷ [])
    go None k = absurd (true≢false (sym k))
    go (Some v) k = (v, refl)

-- and the other way round
pub word-there : (words : List (Option ℕ)) (x u : ℕ) → word_among words x ≡ u ∷ [] → has_among words x ≡ true
word-there words x u h = go (slice_index_or words x None) h
  where
    go : (o : Option ℕ) → option_to_list o ≡ u ∷ [] → is_some o ≡ true
    go None k = absurd (cc)
    go (Some v) k = refl

-- of one more word: its node has it
pub word-here : (x v : ℕ) (words : List (Option ℕ)) → word_among (put_at None x (Some v) words) x ≡ v ∷ []
word-here x v words = ap option_to_list (put_at-here None x (Some v) words)

-- and each other node has what it had
pub word-cases : (x v : ℕ) (words : List (Option ℕ)) (y u : ℕ) → word_among (put_at None x (Some v) words) y ≡ u ∷ []
    → ((x ≡ y) × (v ≡ u)) ⊎ (word_among words y ≡ u ∷ [])
word-cases x v words y u h = ⊎_elim (λ e. inl (e, same e)) (λ k. inr (ap option_to_list (sym k.1) ∙ h)) (put_at-cases None x (Some v) words y)
  where
    head : v ∷ [] ≡ u ∷ [] → v ≡ u
    head e = cc

    same : x ≡ y → v ≡ u
    same e = head (sym (word-here x v words) ∙ ap (word_among (put_at None x (Some v) words)) e ∙ h)

-- so its node has one
pub has-here : (x v : ℕ) (words : List (Option ℕ)) → has_among (put_at None x (Some v) words) x ≡ true
has-here x v words = ap is_some (put_at-here None x (Some v) words)

-- a node that had a word has one
pub has-stays : (x v : ℕ) (words : List (Option ℕ)) (y : ℕ) → has_among words y ≡ true → has_among (put_at None x (Some v) words) y ≡ true
has-stays x v words y h = ⊎_elim (λ e. ap (has_among (put_at None x (Some v) words)) (sym e) ∙ has-here x v words)
    (λ k. ap is_some k.1 ∙ h) (put_at-cases None x (Some v) words y)

-- and no other node has one anew
pub has-cases : (x v : ℕ) (words : List (Option ℕ)) (y : ℕ) → has_among (put_at None x (Some v) words) y ≡ true → (x ≡ y) ⊎ (has_among words y ≡ true)
has-cases x v words y h = ⊎_elim inl (λ k. inr (ap is_some (sym k.1) ∙ h)) (put_at-cases None x (Some v) words y)
