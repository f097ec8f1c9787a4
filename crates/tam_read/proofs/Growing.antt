-- How much a line builds: at most one node and one block; and the faults of lines one by one.
use Rattle.std.proofs.Common.{◌≡◌, ℕ, zero, suc, ◌+◌, ◌≤◌, List, [], ◌∷◌, ◌++◌, length, map, take, refl, sym, ap, ◌∙◌, arith}
use Rattle.std.proofs.lemmas.List.{length-append}
use Rattle.tam_word.specs.Lists.{changed_at}
use Rattle.tam_read.specs.declared.form.Verb.{Verb}
use Rattle.tam_read.specs.declared.form.Verb.TheVariants as verb
use Rattle.tam_read.specs.declared.cause.ReadCause.{ReadCause}
use Rattle.tam_read.specs.declared.refused.Refused.{Refused}
use Rattle.tam_read.specs.declared.refused.Refused.TheVariants.{At, NoMemory}
use Rattle.tam_read.specs.Sentences.{Sentence}
use Rattle.tam_read.specs.Naming.{Known}
use Rattle.tam_read.specs.Building.{Built, built_by, with_node, cond_within, with_else}
use Rattle.tam_read.specs.Refusals.{IsFirst}

-- an element changed leaves the length
pub length-changed_at : {X : Type 0} (n : ℕ) (f : X → X) (xs : List X) → length (changed_at n f xs) ≡ length xs
length-changed_at n f [] = refl
length-changed_at zero f (x ∷ xs) = refl
length-changed_at (suc n) f (x ∷ xs) = ap suc (length-changed_at n f xs)

-- a list with one more
one_more : {X : Type 0} (xs : List X) (x : X) → length (xs ++ x ∷ []) ≤ length xs + 1
one_more xs x = omega (arith, length-append xs (x ∷ []))

-- a line builds at most one node
pub few-nodes : (k : Known) (b : Built) (s : Sentence) (v : Verb) → length (built_by k b s v).nodes ≤ length b.nodes + 1
few-nodes k b s verb.Code = omega arith
few-nodes k b s verb.Else = omega (arith, length-changed_at (cond_within b.within) (with_else (length b.owners)) b.nodes)
few-nodes k b s verb.End = omega arith
few-nodes k b s v = one_more b.nodes _

-- and at most one block
pub few-owners : (k : Known) (b : Built) (s : Sentence) (v : Verb) → length (built_by k b s v).owners ≤ length b.owners + 1
few-owners k b s verb.Cond = one_more b.owners _
few-owners k b s verb.Else = one_more b.owners _
few-owners k b s v = omega arith

-- the first of some faults is the first with others behind
pub first-before : (xs ys : List (ℕ × ReadCause)) (e : Refused) → IsFirst xs e → IsFirst (xs ++ ys) e
first-before [] ys (At line cause) h = absurd cc
first-before (x ∷ xs) ys (At line cause) h = h
first-before xs ys NoMemory h = tt
