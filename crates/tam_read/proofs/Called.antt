-- The verb that a token writes, found by going over all verbs.
use Rattle.std.proofs.Common.{◌≡◌, ℕ, suc, ◌+◌, ◌<◌, Bool, true, false, List, [], ◌∷◌, length, drop, get_or, refl, sym, ap, ◌∙◌, add-one}
use Rattle.std.proofs.Math.Seq.{drop-cons}
use Rattle.std.specs.Str.{bytes_eq}
use Rattle.tam_word.specs.Lists.{first_of, same_bytes}
use Rattle.tam_text.proofs.SameBytes.{same_bytes_is}
use Rattle.tam_read.specs.declared.form.Verb.{Verb}
use Rattle.tam_read.specs.declared.form.TheConstants.{VERBS}
use Rattle.tam_read.specs.Sentences.{verb_text, verb_called}

-- a verb of another text is left out
skip : {X : Type 0} (test : X → Bool) (t : Bool) (x : X) (xs : List X) → t ≡ false → (elim t [ true ↦ x ∷ [] | false ↦ first_of test xs ]) ≡ first_of test xs
skip test true x xs e = absurd cc
skip test false x xs e = refl

-- what doesn't pass is left out
pub first_of-skip : {X : Type 0} (test : X → Bool) (xs : List X) (i : ℕ) (d : X) → i < length xs → test (get_or xs i d) ≡ false
    → first_of test (drop (i + 1) xs) ≡ first_of test (drop i xs)
first_of-skip test xs i d lt fails = rw (add-one i, drop-cons xs i d lt) (sym (skip test (test (get_or xs i d)) (get_or xs i d) (drop (suc i) xs) fails))

-- a verb that the token doesn't write
pub another_verb : (token text : List ℕ) (i : ℕ) (d : Verb) → i < length VERBS → text ≡ verb_text (get_or VERBS i d) → bytes_eq token text ≡ false
    → first_of (λ v. same_bytes token (verb_text v)) (drop i VERBS) ≡ verb_called token
    → first_of (λ v. same_bytes token (verb_text v)) (drop (i + 1) VERBS) ≡ verb_called token
another_verb token text i d lt is fails h =
    let e : same_bytes token (verb_text (get_or VERBS i d)) ≡ false = same_bytes_is token (verb_text (get_or VERBS i d)) ∙ ap (bytes_eq token) (sym is)
    ∙ fails in
    first_of-skip (λ v. same_bytes token (verb_text v)) VERBS i d lt e ∙ h
