-- The verb that a token writes, found by going over all verbs.
use Rattle.std.proofs.Common.{◌≡◌, ℕ, suc, ◌+◌, ◌<◌, Bool, true, false, cond, List, length, drop, get_or, Option, Some, refl, sym, ap, ◌∙◌, add-one}
use Rattle.std.proofs.Math.Seq.{drop-cons}
use Rattle.std.specs.List.{find}
use Rattle.tam_word.specs.Lists.{same_bytes}
use Rattle.rv_asm.specs.declared.verb.Verb.{Verb}
use Rattle.rv_asm.specs.declared.verb.TheConstants.{VERBS}
use Rattle.rv_asm.specs.InstNames.{verb_text, verb_called}

-- what doesn't pass is left out
skip : {X : Type 0} (t : Bool) (x : X) (o : Option X) → t ≡ false → cond t (Some x) o ≡ o
skip true x o e = absurd cc
skip false x o e = refl

-- in a list
pub find-skip : {X : Type 0} (test : X → Bool) (xs : List X) (i : ℕ) (d : X) → i < length xs → test (get_or xs i d) ≡ false
    → find test (drop (i + 1) xs) ≡ find test (drop i xs)
find-skip test xs i d lt fails =
    rw (add-one i, drop-cons xs i d lt) (sym (skip (test (get_or xs i d)) (get_or xs i d) (find test (drop (suc i) xs)) fails))

-- a verb that the token doesn't write
pub another_verb : (token text : List ℕ) (i : ℕ) (d : Verb) → i < length VERBS → text ≡ verb_text (get_or VERBS i d) → same_bytes token text ≡ false
    → find (λ v. same_bytes token (verb_text v)) (drop i VERBS) ≡ verb_called token
    → find (λ v. same_bytes token (verb_text v)) (drop (i + 1) VERBS) ≡ verb_called token
another_verb token text i d lt is fails h =
    find-skip (λ v. same_bytes token (verb_text v)) VERBS i d lt (ap (same_bytes token) (sym is) ∙ fails) ∙ h

-- what passes is found
take_it : {X : Type 0} (t : Bool) (x : X) (o : Option X) → t ≡ true → cond t (Some x) o ≡ Some x
take_it true x o e = refl
take_it false x o e = absurd cc

-- in a list
find-here : {X : Type 0} (test : X → Bool) (xs : List X) (i : ℕ) (d : X) → i < length xs → test (get_or xs i d) ≡ true
    → find test (drop i xs) ≡ Some (get_or xs i d)
find-here test xs i d lt holds = rw (drop-cons xs i d lt) (take_it (test (get_or xs i d)) (get_or xs i d) (find test (drop (suc i) xs)) holds)

-- the verb that the token writes
pub this_verb : (token text : List ℕ) (i : ℕ) (d : Verb) → i < length VERBS → text ≡ verb_text (get_or VERBS i d) → same_bytes token text ≡ true
    → find (λ v. same_bytes token (verb_text v)) (drop i VERBS) ≡ verb_called token
    → Some (get_or VERBS i d) ≡ verb_called token
this_verb token text i d lt is holds h =
    sym (find-here (λ v. same_bytes token (verb_text v)) VERBS i d lt (ap (same_bytes token) (sym is) ∙ holds)) ∙ h
