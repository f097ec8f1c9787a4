use Rattle.std.proofs.Common.{◌≡◌, ◌∙◌, ℕ, ◌<◌, ◌≤◌, List, length, get_or, subst, sym, ap, arith}
use Rattle.std.specs.Prelude.{slice_index}
use Rattle.std.specs.declared.vec.Vec.{Vec}
use Rattle.std.specs.declared.alloc.Global.{Global}
use Rattle.tl0_code.specs.ThreadCode.{Program, code_text, counts_of, widest_slots, widest_threads}
use Rattle.tl0_machine.proofs.CheckedCode.{first-slots, counts-fit, first-counted}
use Rattle.tl0_machine.proofs.CountLists.{counts-there, counts-own}
use Rattle.tl0_machine.proofs.code_table.CodeTable.counts.Goals as goal

module _ (c : goal.After-as_slice) where
  -- the program
  abbrev its-program : Program
  its-program = c.self.inside.code

  -- the list
  abbrev its-counts : Vec ℕ Global
  its-counts = c.in_ok-counts.counts.now

  -- it is among the lists
  low : c.args.code < length c.self.inside.counts.items
  low = omega (arith, c.in_ok-counts.ensures.lookup.3.0, ap length c.deref.ensures.value)

  -- at the code's place
  is : its-counts ≡ get_or c.self.inside.counts.items c.args.code its-counts
  is = c.in_ok-counts.ensures.lookup.1 ∙ ap (λ (l : List (Vec ℕ Global)). get_or l c.args.code its-counts) c.deref.ensures.value

  -- so the code is there
  there : c.args.code < length its-program.codes
  there = counts-there its-program c.self.inside.counts.items c.self.invariant c.args.code its-counts low is

  -- and the list has its entry counts
  own : c.as_slice.result.now ≡ counts_of (code_text its-program c.args.code)
  own = c.as_slice.ensures.value ∙ counts-own its-program c.self.inside.counts.items c.self.invariant c.args.code its-counts low is

pub returns-clause-value : goal.returns-clause-value
returns-clause-value c = own c ∙ ap (λ (p : Program). counts_of (code_text p c.args.code)) c.self.view_is

pub returns-clause-fit : goal.returns-clause-fit
returns-clause-fit c =
    let fit = counts-fit (its-program c) c.program-program.ensures.checked c.args.code (there c) in
    subst (λ (p : Program). length c.as_slice.result.now ≤ widest_threads p) c.self.view_is
    (subst (λ (l : List ℕ). length l ≤ widest_threads (its-program c)) (sym (own c)) fit)

pub returns-clause-first : goal.returns-clause-first
returns-clause-first c =
    subst (λ (l : List ℕ). 0 < slice_index l 0) (sym (own c)) (first-counted (its-program c) c.program-program.ensures.checked c.args.code (there c))

pub returns-clause-slots : goal.returns-clause-slots
returns-clause-slots c =
    subst (λ (p : Program). 2 ≤ widest_slots p) c.self.view_is (first-slots (its-program c) c.program-program.ensures.checked)
