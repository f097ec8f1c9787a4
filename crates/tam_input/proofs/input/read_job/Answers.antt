use Rattle.std.proofs.Common.{rules, ◌∙◌, ◌≡◌, refl, ap, subst, ◌≤◌, length}
use Rattle.std.specs.Prelude.{Some}
use Rattle.tam_input.specs.Told.{told, ForSome, GivesEnds}
use Rattle.tam_input.specs.Inputs.{request_of, IsTextOf, RefusesText, IsInput, ReadsOut}
use Rattle.tam_words.specs.Jobs.{Job}
use Rattle.tam_input.specs.Refusing.{file_count, most_bytes, text_file}
use Rattle.tam_input.proofs.Found.{input-found, input-refused, all-out, both-keep}
use Rattle.tam_input.proofs.input.read_job.Goals as goal

pub returns-in_err-text-clause-refused : goal.returns-in_err-text-clause-refused
returns-in_err-text-clause-refused g c =
    let before = told g.F.Files.left g.F.Files.faults g.F.Files.ends c.args.files.now in
    let mid = told g.F.Files.left g.F.Files.faults g.F.Files.ends c.read_order.new.files in
    let now = told g.F.Files.left g.F.Files.faults g.F.Files.ends c.read_text.new.files in
    let text = ap text_file c.read_order.ensures.kept in
    let most = ap (λ j. most_bytes j.mode) c.read_order.ensures.kept in
    let h = input-refused c.args.job (told g.F.Files.left g.F.Files.faults g.F.Files.ends c.args.files.now)
    (told g.F.Files.left g.F.Files.faults g.F.Files.ends c.read_order.new.files) (told g.F.Files.left g.F.Files.faults g.F.Files.ends c.read_text.new.files)
    c.in_ok-order.order c.in_ok-order.ensures.found c.in_ok-order.ensures.ended c.read_order.ensures.files.other_left
    (c.in_ok-order.ensures.files.uncounted (λ none. none)) c.in_err-text.ensures.endless c.in_err-text.field-0.0
    (subst (λ m. RefusesText mid now (text_file c.args.job) m c.in_err-text.field-0.0) most
    (subst (λ t. RefusesText mid now t (most_bytes c.read_order.new.job.mode) c.in_err-text.field-0.0) text c.in_err-text.ensures.refused)) in
    search (rules, h)

pub returns-in_err-text-clause-files : goal.returns-in_err-text-clause-files
returns-in_err-text-clause-files g c =
    let h = both-keep c.args.job (told g.F.Files.left g.F.Files.faults g.F.Files.ends c.args.files.now)
    (told g.F.Files.left g.F.Files.faults g.F.Files.ends c.read_order.new.files) (told g.F.Files.left g.F.Files.faults g.F.Files.ends c.read_text.new.files) _ _
    (ap text_file c.read_order.ensures.kept) c.in_ok-order.ensures.files c.in_err-text.ensures.files in
    search (rules, h)

pub returns-clause-found : goal.returns-clause-found
returns-clause-found g c =
    let before = told g.F.Files.left g.F.Files.faults g.F.Files.ends c.args.files.now in
    let mid = told g.F.Files.left g.F.Files.faults g.F.Files.ends c.read_order.new.files in
    let now = told g.F.Files.left g.F.Files.faults g.F.Files.ends c.read_text.new.files in
    let text = ap text_file c.read_order.ensures.kept in
    let most = ap (λ j. most_bytes j.mode) c.read_order.ensures.kept in
    let bytes = c.in_ok-text.text.items in
    let h = input-found c.args.job (told g.F.Files.left g.F.Files.faults g.F.Files.ends c.args.files.now)
    (told g.F.Files.left g.F.Files.faults g.F.Files.ends c.read_order.new.files) (told g.F.Files.left g.F.Files.faults g.F.Files.ends c.read_text.new.files)
    c.in_ok-order.order c.in_ok-order.ensures.found c.in_ok-order.ensures.ended c.read_order.ensures.files.other_left
    (c.in_ok-order.ensures.files.uncounted (λ none. none)) bytes
    (subst (λ t. IsTextOf mid.left t bytes) text c.in_ok-text.ensures.content) (subst (λ m. length bytes ≤ m) most c.in_ok-text.ensures.few)
    (subst (λ t. GivesEnds mid now (file_count t)) text c.in_ok-text.ensures.ended) in (
      h.0,
      h.1,
      record {
        job = h.2.job;
        order = h.2.order;
        asked = h.2.asked;
        same = ap (λ j. request_of j c.in_ok-order.order) c.read_order.ensures.kept ∙ h.2.same;
        ordered = h.2.ordered;
        text = h.2.text;
        few = h.2.few;
        to_end = h.2.to_end;
      },
    )

pub returns-clause-read_out : goal.returns-clause-read_out
returns-clause-read_out g c =
    let mid = told g.F.Files.left g.F.Files.faults g.F.Files.ends c.read_order.new.files in
    let now = told g.F.Files.left g.F.Files.faults g.F.Files.ends c.read_text.new.files in
    let text = ap text_file c.read_order.ensures.kept in
    all-out c.args.job (told g.F.Files.left g.F.Files.faults g.F.Files.ends c.args.files.now)
    (told g.F.Files.left g.F.Files.faults g.F.Files.ends c.read_order.new.files) (told g.F.Files.left g.F.Files.faults g.F.Files.ends c.read_text.new.files)
    c.in_ok-order.order c.in_ok-order.ensures.found c.in_ok-order.ensures.ended c.read_order.ensures.files.other_left
    (c.in_ok-order.ensures.files.uncounted (λ none. none)) c.in_ok-order.ensures.read_out
    (subst (λ t. ReadsOut (λ file. t ≡ Some file) mid.left now.left) text c.in_ok-text.ensures.read_out)
    (λ file other. c.read_text.ensures.files.other_left file (λ is. other (subst (λ t. t ≡ Some file) text is)))
