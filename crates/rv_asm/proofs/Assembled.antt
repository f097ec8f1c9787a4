-- What the two passes give is an image, and what they refuse has its first fault there.
use Rattle.std.proofs.Common.{◌≡◌, ℕ, ◌+◌, ◌≤◌, ◌<◌, Bool, true, false, not, ◌&&◌, List, [], ◌∷◌, length, map, refl, sym, ap, subst, ◌∙◌, arith}
use Rattle.std.proofs.lemmas.List.{length-map}
use Rattle.tam_text.specs.Lines.{lines_of, is_some_of}
use Rattle.rv_image.specs.ImageFiles.{max_words}
use Rattle.rv_image.specs.ImageFiles.{IsImage}
use Rattle.rv_asm.specs.declared.asm_error.AsmCause.{AsmCause}
use Rattle.rv_asm.specs.declared.asm_error.AsmCause.TheVariants.{Ended}
use Rattle.rv_asm.specs.declared.asm_error.AsmError.{AsmError}
use Rattle.rv_asm.specs.declared.asm_error.AsmError.TheVariants.{At, NoMemory}
use Rattle.rv_asm.specs.declared.pass.Pass.{Pass}
use Rattle.rv_asm.specs.declared.pass.Placed.{Placed as PlacedAt}
use Rattle.rv_asm.specs.Head.{is_body}
use Rattle.rv_asm.specs.Tokens.{tokens_of}
use Rattle.rv_asm.specs.Faults.{Said, nothing_said, with_tokens, said_from, said_in, faults_of_line, faults_at_end, first_pass, first_faults, last_line}
use Rattle.rv_asm.specs.Faults.{second_pass, second_faults, faults_or, asm_faults, IsFirst}
use Rattle.rv_asm.specs.PassView.{said, labels_seen, placed_seen}
use Rattle.rv_asm.specs.Sound.{IsSound}
use Rattle.rv_asm.proofs.Soundness.{none_before, none_behind, where_none, line_sound}

-- a list whose image is empty is empty
pub none_mapped : {X Y : Type 0} (f : X → Y) (xs : List X) → map f xs ≡ [] → xs ≡ []
none_mapped f [] e = refl
none_mapped f (x ∷ xs) e = absurd cc

-- where lines have no fault, what they say is sound, and the end has none
pub sound_from : (last : ℕ) (s : Said) (n : ℕ) (lines : List (List ℕ)) → first_pass last s n lines ≡ [] → IsSound s
    → IsSound (said_from s n lines) × (faults_at_end (said_from s n lines) ≡ [])
sound_from last s n [] e h = (h, none_mapped (λ c. (last, c)) (faults_at_end s) e)
sound_from last s n (line ∷ lines) e h =
    let here : faults_of_line s line ≡ [] = none_mapped (λ c. (n, c)) (faults_of_line s line) (none_before _ _ e) in
    sound_from last (with_tokens n (tokens_of line) s) (n + 1) lines (none_behind _ _ e) (line_sound s n line here h)

-- before the first line
nothing_sound : IsSound nothing_said
nothing_sound = record { stride = refl; params = omega arith; results = omega arith; few = omega arith }

-- both hold
both : (t u : Bool) → not (t && u) ≡ false → (t ≡ true) × (u ≡ true)
both true true e = (refl, refl)
both true false e = absurd cc
both false u e = absurd cc

-- some are there
some_there : {X : Type 0} (xs : List X) → is_some_of xs ≡ true → 0 < length xs
some_there [] e = absurd cc
some_there (x ∷ xs) e = omega arith

-- what is said at the end
pub at_end : (s : Said) → faults_at_end s ≡ [] → (is_body s.next ≡ true) × (0 < length s.words)
at_end s e = let p = both (is_body s.next) (is_some_of s.words) (where_none _ Ended e) in (p.0, some_there s.words p.1)

module _ (text : List ℕ) (pass : Pass) (first : first_faults text ≡ []) (all : said pass ≡ said_in text) where
  sound : IsSound (said pass) × (faults_at_end (said pass) ≡ [])
  sound = subst (λ (z : Said). IsSound z × (faults_at_end z ≡ [])) (sym all) (sound_from (last_line text) nothing_said 1 (lines_of text) first nothing_sound)

  -- not too many words
  pub few_words : (ps : List PlacedAt) → ps ≡ pass.words.items → length ps ≤ max_words
  few_words ps is = let h : length (map placed_seen pass.words.items) ≤ max_words = sound.0.few in
      omega (arith, length-map pass.words.items placed_seen, ap length is)

  -- the image is one
  pub in_image : (ps : List PlacedAt) (ws : List ℕ) → ps ≡ pass.words.items → length ws ≡ length ps
      → IsImage (record { stride = pass.stride; params = pass.params; results = pass.results; words = ws })
  in_image ps ws is len =
      let some : 0 < length (map placed_seen pass.words.items) = (at_end (said pass) sound.1).1 in
      let few = few_words ps is in
      record {
        stride = sound.0.stride;
        params = sound.0.params;
        results = sound.0.results;
        some_word = omega (arith, length-map pass.words.items placed_seen, ap length is);
        words = omega arith;
      }

  -- the faults are those of the second pass
  whole : (ps : List PlacedAt) → ps ≡ pass.words.items → second_pass (labels_seen pass.labels.entries) 0 (map placed_seen ps) ≡ asm_faults text
  whole ps is =
      ap (λ (qs : List PlacedAt). second_pass (labels_seen pass.labels.entries) 0 (map placed_seen qs)) is
      ∙ ap (λ (z : Said). second_pass z.labels 0 z.words) all
      ∙ sym (ap (λ (fs : List (ℕ × AsmCause)). faults_or fs (second_faults text)) first)

  -- no fault of either pass
  pub no_fault : (ps : List PlacedAt) → ps ≡ pass.words.items → second_pass (labels_seen pass.labels.entries) 0 (map placed_seen ps) ≡ [] → asm_faults text ≡ []
  no_fault ps is e = sym (whole ps is) ∙ e

  -- the first of the second
  pub first_of_second : (ps : List PlacedAt) → ps ≡ pass.words.items → (e : AsmError)
      → IsFirst (second_pass (labels_seen pass.labels.entries) 0 (map placed_seen ps)) e → IsFirst (asm_faults text) e
  first_of_second ps is e h = subst (λ (fs : List (ℕ × AsmCause)). IsFirst fs e) (whole ps is) h

-- the first of the first
first_stays : (fs others : List (ℕ × AsmCause)) (e : AsmError) → IsFirst fs e → IsFirst (faults_or fs others) e
first_stays [] others (At line cause) h = absurd cc
first_stays (f ∷ fs) others (At line cause) h = h
first_stays fs others NoMemory h = tt

-- of a text
pub first_of_first : (text : List ℕ) (e : AsmError) → IsFirst (first_faults text) e → IsFirst (asm_faults text) e
first_of_first text e h = first_stays (first_faults text) (second_faults text) e h
