use Rattle.std.proofs.Common.{◌≡◌, ◌+◌, ◌≤◌, ◌∷◌, [], length, ap, sym, ◌∙◌, subst, ℕ}
use Rattle.rv_inst.specs.declared.inst.Inst.{Inst}
use Rattle.rv_inst.specs.Instructions.{decoded}
use Rattle.rv_inst.specs.Harts.{Hart, read_at}
use Rattle.rv_machine.specs.Keeping.{told}
use Rattle.rv_machine.proofs.Kept.{known-goes_on}
use Rattle.rv_machine.proofs.rv.Rv.next_kept.Goals as goal

-- what is known of the word at an address, and of the entry of its place
abbrev Known : Hart → ℕ → Inst → Type 0
Known h a i = decoded (read_at h.memory a 4) ≡ i ∷ []

pub returns-clause-value : goal.returns-clause-value
returns-clause-value c =
    let self = c.args.self.now in
    let entry = c.in_ok-at.ensures.value c.self.inside.memory.items c.self.invariant.1 in
    let here : c.number.result ≡ c.args.pc = c.number.ensures.value in
    let room : c.args.pc + 4 ≤ length self.memory =
    subst (λ (a : ℕ). a + 4 ≤ length self.memory) here (subst (λ (h : Hart). c.number.result + 4 ≤ length h.memory) c.self.view_is entry.0) in
    known-goes_on self c.carry_out.new.rv c.args.pc (told c.by_fields-inst.result) c.carry_out.result room
    (λ i e. subst (λ (a : ℕ). Known self a i) here (subst (λ (h : Hart). Known h c.number.result i) c.self.view_is
    (entry.1 i (ap told (sym c.by_fields-inst.ensures.value) ∙ e))))
    c.carry_out.ensures.value
