use Rattle.std.proofs.Common.{◌≡◌, ◌∙◌, ℕ, ◌<◌, ap, sym, subst, refl, true}
use Rattle.frame_tables.specs.FrameTables.{count_in, is_live, next_number, taken}
use Rattle.tam_frames.specs.StoredFrames.{StoredFrames}
use Rattle.tl0_machine.proofs.NewFrames.{count-taken, live-put, count-put}
use Rattle.tl0_machine.proofs.beginning.take_frame.Goals as goal

pub set-requires-2-clause-live : goal.set-requires-2-clause-live
set-requires-2-clause-live c = live-put c.take.new.self c.set.new.self c.in-Ok.f 0 c.args.first c.set.ensures.value c.in-Ok.ensures.live

pub returns-clause-live : goal.returns-clause-live
returns-clause-live c =
    live-put c.set.new.self c.set-2.new.self c.in-Ok.f 1 c.args.second c.set-2.ensures.value
    (live-put c.take.new.self c.set.new.self c.in-Ok.f 0 c.args.first c.set.ensures.value c.in-Ok.ensures.live)

pub returns-clause-counted : goal.returns-clause-counted
returns-clause-counted c =
    let f = c.in-Ok.f in
    let s = c.args.state.now.frames in
    let first = live-put c.take.new.self c.set.new.self f 0 c.args.first c.set.ensures.value c.in-Ok.ensures.live in
    let is : c.take.new.self.table ≡ taken s.table s.slots s.threads c.args.counts.now = ap (λ (v : StoredFrames). v.table) c.in-Ok.ensures.ok in
    let number : f ≡ next_number s.table = c.in-Ok.ensures.number in
    let live : is_live (taken s.table s.slots s.threads c.args.counts.now) (next_number s.table) ≡ true =
    subst (λ (n : ℕ). is_live (taken s.table s.slots s.threads c.args.counts.now) n ≡ true) number (rw is at c.in-Ok.ensures.live) in
    let same : count_in c.set-2.new.self.table f 0 ≡ count_in (taken s.table s.slots s.threads c.args.counts.now) (next_number s.table) 0 =
    count-put c.set.new.self c.set-2.new.self f 1 c.args.second c.set-2.ensures.value first 0
    ∙ (count-put c.take.new.self c.set.new.self f 0 c.args.first c.set.ensures.value c.in-Ok.ensures.live 0
    ∙ (rw (is, number) refl)) in
    subst (λ (n : ℕ). 0 < n) (sym same) (count-taken s.table s.slots s.threads c.args.counts.now c.requires.fit c.requires.some live)
