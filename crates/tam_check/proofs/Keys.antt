-- Which interface a node is of, and that interfaces differ where their numbers do.
use Rattle.std.proofs.Common.{◌≡◌, ℕ, ◌+◌, ◌*◌, ◌<◌, Bool, true, false, ◌&&◌, ◌==◌, Option, Some, None, refl, sym, ◌∙◌, arith}
use Rattle.tam_word.proofs.Tests.{number-eq, eq-number, number-differs, both-true, true-both}
use Rattle.tam_graph.specs.declared.kind.Kind.{Kind}
use Rattle.tam_graph.specs.declared.kind.Kind.TheVariants.{Param, Arg, Ret, Give, Switch, Merge, Enter, Leave}
use Rattle.tam_check.specs.declared.interface.Interface.{Interface}
use Rattle.tam_check.specs.declared.interface.Interface.TheVariants.{Params, Results, Args, Rets, Switches, Merges, Ins, Outs}
use Rattle.tam_check.specs.Interfaces.{stands, interface_of}
use Rattle.tam_check.specs.Tables.{sort_of, owner_number, number, same_side}

-- a node of one interface has a place of another where they are one and the places are
abbrev pub own_stands : Interface → ℕ → Option (Interface × ℕ) → Bool
own_stands i k None = false
own_stands i k (Some q) = same_side q.0 i && (q.1 == k)

-- neither holds
false-and : (b : Bool) → (b && false) ≡ false
false-and true = refl
false-and false = refl

-- a node has a place of an interface where it is its own
pub stands-own : (i : Interface) (k b : ℕ) (m : Kind) → stands i k b m ≡ own_stands i k (interface_of b m)
stands-own Params k b (Param j) = refl
stands-own Params k b other = refl
stands-own Results k b (Give j a) = refl
stands-own Results k b other = refl
stands-own (Args f) k b (Arg e j a) = refl
stands-own (Args f) k b other = refl
stands-own (Rets f) k b (Ret e j) = refl
stands-own (Rets f) k b other = refl
stands-own (Switches d) k b (Switch e j a) = refl
stands-own (Switches d) k b other = refl
stands-own (Merges d) k b (Merge e j) = refl
stands-own (Merges d) k b other = refl
stands-own (Ins e) k b (Enter j) = refl
stands-own (Ins e) k b other = false-and (b == e)
stands-own (Outs e) k b (Leave j a) = refl
stands-own (Outs e) k b other = false-and (b == e)

-- there are eight sorts
pub sort-below : (i : Interface) → sort_of i < 8
sort-below Params = omega arith
sort-below Results = omega arith
sort-below (Args f) = omega arith
sort-below (Rets f) = omega arith
sort-below (Switches d) = omega arith
sort-below (Merges d) = omega arith
sort-below (Ins b) = omega arith
sort-below (Outs b) = omega arith

-- the parts of a number
parts : (x y c d : ℕ) → c < 8 → d < 8 → 8 * x + c ≡ 8 * y + d → (c ≡ d) × (x ≡ y)
parts x y c d a b e = (omega arith, omega arith)

-- what has one number as its number
pub same-number : (j i : Interface) → same_side j i ≡ true → number j ≡ number i
same-number j i h =
    let t = both-true (sort_of j == sort_of i) (owner_number j == owner_number i) h in
    let sorts = number-eq (sort_of j) (sort_of i) t.0 in
    let owners = number-eq (owner_number j) (owner_number i) t.1 in
    omega (arith, sorts, owners)

-- two interfaces are one where their numbers are
pub same-side : (j i : Interface) → same_side j i ≡ (number j == number i)
same-side j i = go (number j == number i) refl
  where
    go : (b : Bool) → (number j == number i) ≡ b → same_side j i ≡ (number j == number i)
    go true e =
        let s = parts (owner_number j) (owner_number i) (sort_of j) (sort_of i) (sort-below j) (sort-below i) (number-eq (number j) (number i) e) in
        true-both (sort_of j == sort_of i) (owner_number j == owner_number i) (eq-number (sort_of j) (sort_of i) s.0)
        (eq-number (owner_number j) (owner_number i) s.1) ∙ sym e
    go false e = differs (same_side j i) refl ∙ sym e
      where
        differs : (b : Bool) → same_side j i ≡ b → same_side j i ≡ false
        differs false h = h
        differs true h = absurd (number-differs (number j) (number i) e (same-number j i h))
