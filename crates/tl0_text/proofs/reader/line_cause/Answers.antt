-- A line with too many tokens; and a code that ends keeps its limits.
use Rattle.std.proofs.Common.{◌∷◌, [], ap, sym, ◌∙◌}
use Rattle.std.proofs.lemmas.Bool.{leb-true}
use Rattle.std.specs.Prelude.{count_by}
use Rattle.tl0_text.specs.CodeSayings.{is_space, without_line_feed}
use Rattle.tl0_text.specs.TextView.{said}
use Rattle.tl0_text.proofs.Looping.{long-line, ends-within}
use Rattle.tl0_text.proofs.reader.line_cause.Goals as goal

pub returns-then-has_more_tokens-clause-cause : goal.returns-then-has_more_tokens-clause-cause
returns-then-has_more_tokens-clause-cause c =
    ap (λ x. x ∷ []) c.long_line_cause.ensures.value
    ∙ long-line (said c.args.pass.now) c.args.line.now
    (leb-true 5 (count_by is_space (without_line_feed c.args.line.now)) (sym c.has_more_tokens.ensures.value ∙ c.if-has_more_tokens.true))

pub put_line-requires : goal.put_line-requires
put_line-requires c = record {
  limits = λ e. ends-within (said c.args.pass.now) c.args.line.now c.in-Ok.said c.requires.sound c.in-Ok.ensures.ok e;
}
