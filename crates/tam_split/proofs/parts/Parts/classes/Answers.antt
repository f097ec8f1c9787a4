use Rattle.std.proofs.Common.{◌≡◌, ◌≤◌, ◌∙◌, sym, ap, arith, length}
use Rattle.tam_split.specs.KeptParts.{cut_from}
use Rattle.tam_split.proofs.Flat.{length-cut}
use Rattle.tam_split.proofs.Stored.{few-classes}
use Rattle.tam_split.proofs.parts.Parts.classes.Goals as goal

pub overflow_cast-result : goal.overflow_cast-result
overflow_cast-result c =
    let all : length (cut_from 0 c.self.inside.places.items c.self.inside.ends.items) ≡ length c.self.inside.ends.items =
    length-cut 0 c.self.inside.places.items c.self.inside.ends.items in
    let few : length (cut_from 0 c.self.inside.places.items c.self.inside.ends.items) ≤ 512 = few-classes
    (cut_from 0 c.self.inside.places.items c.self.inside.ends.items) c.self.invariant.classes in
    let count : c.len.result ≡ length c.self.inside.ends.items = c.len.ensures ∙ c.self.inside.ends.ok.0 in omega arith

pub returns-clause-value : goal.returns-clause-value
returns-clause-value c =
    c.len.ensures ∙ (c.self.inside.ends.ok.0 ∙ (sym (length-cut 0 c.self.inside.places.items c.self.inside.ends.items) ∙ ap length c.self.view_is))
