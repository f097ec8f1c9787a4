use Rattle.std.proofs.Common.{◌≡◌, ◌∷◌, ◌++◌, ◌-◌, List, length, map, take, drop, sym, ap, ◌∙◌}
use Rattle.tam_read.specs.declared.part.Part.{Part}
use Rattle.tam_read.specs.PartView.{code_of_part}
use Rattle.tam_read.proofs.Bodies.{first-and-others}
use Rattle.tam_read.proofs.Assembled.{code-of-text}
use Rattle.tam_read.proofs.reading.graph_of.Goals as goal

pub code_of-requires : goal.code_of-requires
code_of-requires c =
    let part = c.part-item.result in
    let rest = c.loop-rest.rest.now in
    let others : List Part = take (length rest - 1) (drop 1 rest) in
    let first : rest ≡ part ∷ others = first-and-others rest part c.in-len1-up.len_at_least c.part-item.is in
    let whole : c.loop-rest.codes.items ++ (code_of_part part ∷ map code_of_part others) ≡ map code_of_part c.args.parts.now =
    ap (λ ps. c.loop-rest.codes.items ++ map code_of_part ps) (sym first) ∙ c.loop-rest.invariant in
    record {
      of_text = code-of-text c.loop-rest.codes.items (code_of_part part) (map code_of_part others)
          (map code_of_part c.args.parts.now) whole c.requires.of_text;
    }
