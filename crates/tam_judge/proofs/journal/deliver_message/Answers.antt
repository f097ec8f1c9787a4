use Rattle.std.proofs.Common.{◌≡◌, ◌∙◌, sym, ap, not, ◌<◌, ◌++◌, ◌∷◌, [], List, ℕ, Some, is_none, false, length, reverse, slice_get, refl, arith, ◌==◌}
use Rattle.std.proofs.lemmas.Option.{slice_get_read}
use Rattle.tam_word.specs.Lists.{has}
use Rattle.tam_judge.specs.Machines.{state_of}
use Rattle.tam_judge.proofs.AnyOf.{any_of-reverse}
use Rattle.tam_judge.proofs.MayFollow.{follows-delivery, no-delivery_more, no-delivery_sent, no-delivery_twice}
use Rattle.tam_judge.proofs.CheckedDeliveries.{is-refused, not-refused, arrived-more, delivered-is}
use Rattle.tam_judge.proofs.journal.deliver_message.Goals as goal
use Rattle.tam_judge.proofs.journal.deliver_message.Goals.{then-is_some-via-then-is_some}
use Rattle.tam_judge.proofs.journal.deliver_message.Goals.{then-is_some-via-else-is_some+then-number-len}
use Rattle.tam_judge.proofs.journal.deliver_message.Goals.{then-is_some-via-else-is_some+else-number-len+then-has}

pub returns-then-is_some : goal.returns-then-is_some
returns-then-is_some c =
    let s = state_of c.args.machine.now in
    record {
      value = λ g all. elim c.then-is_some.branch [
        | then-is_some-via-then-is_some w ↦ no-delivery_more g all s c.args.number
            (is-refused c.args.machine.now.fault (sym c.is_some.ensures ∙ w.if-is_some.true))
        | then-is_some-via-else-is_some+then-number-len w ↦ no-delivery_sent g all s c.args.number (omega (
          arith,
          w.len.ensures,
          w.if-number-len.true,
          c.args.machine.now.sent.ok.0,
        ))
        | then-is_some-via-else-is_some+else-number-len+then-has w ↦ no-delivery_twice g all s c.args.number
            (any_of-reverse (λ x. x == c.args.number) c.args.machine.now.arrived.items ∙ sym (rw w.deref.ensures.value at w.has.ensures.value) ∙ w.if-has.true)
      ];
    }

pub returns : goal.returns
returns c =
    let s = state_of c.args.machine.now in
    let whole = ap is_none (not-refused c.args.machine.now.fault (sym c.is_some.ensures ∙ c.if-is_some.false)) in
    let sent : c.args.number < length s.sent = omega (arith, c.len.ensures, c.if-number-len.false, c.args.machine.now.sent.ok.0) in
    let new : has s.arrived c.args.number ≡ false =
    any_of-reverse (λ x. x == c.args.number) c.args.machine.now.arrived.items ∙ sym (rw c.deref.ensures.value at c.has.ensures.value) ∙ c.if-has.false in
    let pushed : c.push.new.self.items ≡ c.args.machine.now.arrived.items ++ c.args.number ∷ [] = c.in_ok-push.ensures.items in
    let more : reverse c.push.new.self.items ≡ c.args.number ∷ s.arrived =
    ap (λ (l : List ℕ). reverse l) pushed ∙ arrived-more c.args.machine.now.arrived.items c.args.number in
    let found : slice_get s.sent c.args.number ≡ Some c.index-message.result.now =
    slice_get_read c.args.machine.now.sent.items (length c.args.machine.now.sent.items) c.args.number c.index-message.result.now refl sent
    c.index-message.ensures in record {
      value = λ g all. (
        follows-delivery g all s c.args.number whole sent new,
        delivered-is s (state_of c.deliver.new.machine) c.args.number c.index-message.result.now (reverse c.push.new.self.items) found more
            c.in_ok-deliver.ensures.ok,
      );
    }
