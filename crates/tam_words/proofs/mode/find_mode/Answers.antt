use Rattle.std.proofs.Common.{◌≡◌, ◌∙◌, false, subst, sym}
use Rattle.std.specs.Str.{bytes_eq}
use Rattle.tam_words.specs.declared.mode.Mode.TheVariants.{Graph}
use Rattle.tam_words.specs.Names.{mode_name}
use Rattle.tam_words.proofs.JobLemmas.{find-behind}
use Rattle.tam_words.proofs.mode.find_mode.Goals as goal

pub loop-rest-preserved : goal.loop-rest-preserved
loop-rest-preserved c =
    let word = c.args.word.now in
    let miss = subst (λ name. bytes_eq word name ≡ false) c.name.ensures.value (sym c.is_same.ensures.value ∙ c.if-is_same.false) in
    find-behind (λ mode. bytes_eq word (mode_name mode)) c.loop-rest.rest.now Graph c.in-len1-up.len_at_least miss ∙ c.loop-rest.invariant
