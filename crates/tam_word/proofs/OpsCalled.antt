-- The operator that a name calls, found by going over all operators.
use Rattle.std.proofs.Common.{◌≡◌, ℕ, suc, ◌+◌, ◌<◌, Bool, true, false, List, [], ◌∷◌, length}
use Rattle.std.proofs.Common.{drop, get_or, refl, sym, ap, ◌∙◌, add-one, true≢false, Some, None, Option, ◌↔◌}
use Rattle.std.proofs.Math.Seq.{drop-cons}
use Rattle.std.proofs.lemmas.Slice.Eq.{bytes_eq-Decides}
use Rattle.std.specs.Str.{bytes_eq}
use Rattle.tam_word.specs.declared.op.Op.{Op}
use Rattle.tam_word.specs.declared.op.Op.TheVariants.{Add, Sub, Mul, Div, Divu, Rem, Remu, And, Or, Xor, Sll, Srl, Sra, Slt, Sltu, Eq}
use Rattle.tam_word.specs.declared.op.TheConstants.{OPS}
use Rattle.tam_word.specs.OpNames.{op_name}

-- the first operator of these of such a name
abbrev pub called : List ℕ → List Op → Option Op
called name [] = None
called name (op ∷ ops) = elim (bytes_eq name (op_name op)) [ true ↦ Some op | false ↦ called name ops ]

-- an operator of another name is left out
by_test : (t : Bool) (op : Op) (r : Option Op) → t ≡ false → r ≡ (elim t [ true ↦ Some op | false ↦ r ])
by_test true op r e = absurd (true≢false e)
by_test false op r e = refl

-- so it is among those behind
pub called-skip : (name : List ℕ) (ops : List Op) (i : ℕ) (d : Op) → i < length ops → bytes_eq name (op_name (get_or ops i d)) ≡ false
    → called name (drop (i + 1) ops) ≡ called name (drop i ops)
called-skip name ops i d lt fails =
    rw (add-one i, drop-cons ops i d lt) (by_test (bytes_eq name (op_name (get_or ops i d))) (get_or ops i d) (called name (drop (suc i) ops)) fails)

-- an operator of that name is the one
pub called-here : (name : List ℕ) (ops : List Op) (i : ℕ) (d : Op) → i < length ops → bytes_eq name (op_name (get_or ops i d)) ≡ true
    → called name (drop i ops) ≡ Some (get_or ops i d)
called-here name ops i d lt passes = rw (drop-cons ops i d lt) (go (bytes_eq name (op_name (get_or ops i d))) passes)
  where
    go : (t : Bool) → t ≡ true → (elim t [ true ↦ Some (get_or ops i d) | false ↦ called name (drop (suc i) ops) ]) ≡ Some (get_or ops i d)
    go true e = refl
    go false e = absurd (true≢false (sym e))

-- the search goes on behind an operator of another name
pub another_op : (name text : List ℕ) (i : ℕ) (d : Op) → i < length OPS → text ≡ op_name (get_or OPS i d) → bytes_eq name text ≡ false
    → called name (drop i OPS) ≡ called name OPS → called name (drop (i + 1) OPS) ≡ called name OPS
another_op name text i d lt is fails h = called-skip name OPS i d lt (ap (bytes_eq name) (sym is) ∙ fails) ∙ h

-- each operator is found by its name
pub called-op_name : (op : Op) → called (op_name op) OPS ≡ Some op
called-op_name Add = refl
called-op_name Sub = refl
called-op_name Mul = refl
called-op_name Div = refl
called-op_name Divu = refl
called-op_name Rem = refl
called-op_name Remu = refl
called-op_name And = refl
called-op_name Or = refl
called-op_name Xor = refl
called-op_name Sll = refl
called-op_name Srl = refl
called-op_name Sra = refl
called-op_name Slt = refl
called-op_name Sltu = refl
called-op_name Eq = refl

-- the operator that is found has the name
op_name-called : (name : List ℕ) (ops : List Op) (op : Op) → called name ops ≡ Some op → name ≡ op_name op
op_name-called name [] op e = absurd cc
op_name-called name (first ∷ ops) op e = go (bytes_eq name (op_name first)) refl (op_name-called name ops op) e
  where
    go : (t : Bool) → bytes_eq name (op_name first) ≡ t → (called name ops ≡ Some op → name ≡ op_name op)
        → (elim t [ true ↦ Some first | false ↦ called name ops ]) ≡ Some op → name ≡ op_name op
    go true p h q = let same : first ≡ op = cc in (bytes_eq-Decides name (op_name first)).0 p ∙ ap op_name same
    go false p h q = h q

-- so what is found is exactly the operator of that name
pub called-exactly : (name : List ℕ) (result : Option Op) → result ≡ called name OPS → (op : Op) → (result ≡ Some op) ↔ (name ≡ op_name op)
called-exactly name result is op = (
  λ some. op_name-called name OPS op (sym is ∙ some),
  λ named. is ∙ (ap (λ (n : List ℕ). called n OPS) named ∙ called-op_name op),
)

-- an operator of that name is the one, where no operator before it is
pub this_op : (name text : List ℕ) (i : ℕ) (d : Op) → i < length OPS → text ≡ op_name (get_or OPS i d) → bytes_eq name text ≡ true
    → called name (drop i OPS) ≡ called name OPS → (op : Op) → (Some (get_or OPS i d) ≡ Some op) ↔ (name ≡ op_name op)
this_op name text i d lt is passes h =
    let here = called-here name OPS i d lt (ap (bytes_eq name) (sym is) ∙ passes) in
    called-exactly name (Some (get_or OPS i d)) (sym here ∙ h)
