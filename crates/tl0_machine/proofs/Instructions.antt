-- One instruction more of a thread.
use Rattle.std.proofs.Common.{◌≡◌, ℕ, zero, suc, ◌+◌, ◌<◌, List, [], ◌∷◌, length, get_or, drop, Some, Err, refl, sym, subst, add-one, drop-cons, arith}
use Rattle.std.specs.Prelude.{slice_get}
use Rattle.tl0_code.specs.declared.instr.Instr.{Instr}
use Rattle.tl0_code.specs.Machines.{Machine, Giving, Fine, done, done_all}
use Rattle.tl0_machine.specs.declared.stop0.Stop0.{Stop0}
use Rattle.tl0_machine.specs.ThreadStates.{IsProgress}
use Rattle.tl0_machine.proofs.Progressing.{then-breaks}

-- what stands in a list is found there
pub get-there : {X : Type 0} (xs : List X) (i : ℕ) (d : X) → i < length xs → slice_get xs i ≡ Some (get_or xs i d)
get-there [] i d there = absurd (omega arith)
get-there (x ∷ xs) zero d there = refl
get-there (x ∷ xs) (suc i) d there = get-there xs i d (omega arith)

module _ (m n : Machine) (f : ℕ) (instrs : List Instr) (i : ℕ) (d : Instr) (there : i < length instrs) where
  -- the next instruction goes well
  pub done_all-next : done Giving m f (get_or instrs i d) ≡ Fine n → done_all Giving m f (drop i instrs) ≡ done_all Giving n f (drop (i + 1) instrs)
  done_all-next is = rw (add-one, drop-cons instrs i d) (rw is refl)

  -- the next instruction breaks
  pub done_all-breaks : (e : Stop0) → IsProgress (done Giving m f (get_or instrs i d)) n (Err e) → IsProgress (done_all Giving m f (drop i instrs)) n (Err e)
  done_all-breaks e is = subst (λ (l : List Instr). IsProgress (done_all Giving m f l) n (Err e)) (sym (drop-cons instrs i d there))
      (then-breaks (done Giving m f (get_or instrs i d)) (λ k. done_all Giving k f (drop (suc i) instrs)) n n e is)
