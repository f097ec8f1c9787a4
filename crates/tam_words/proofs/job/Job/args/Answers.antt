use Rattle.std.proofs.Common.{◌≡◌, ◌<◌, ◌^◌, ℕ, get_or, slice_get, Some, arith, rules, ap, ◌∙◌, sym, subst}
use Rattle.tam_words.proofs.JobLemmas.{words_below}
use Rattle.tam_words.proofs.job.Job.args.Goals as goal

pub returns-clause-words : goal.returns-clause-words
returns-clause-words c =
    let same : c.as_slice-args.result.now ≡ c.args.self.now.args = c.as_slice-args.ensures.value ∙ ap (λ parts. parts.args) c.self.view_is in
    let fits : (k : ℕ) → get_or c.as_slice-args.result.now k 0 < 2 ^ 32 = λ k. first_of (search rules, grind arith) in
    λ k w e. words_below c.as_slice-args.result.now fits k w (subst (λ xs. slice_get xs k ≡ Some w) (sym same) e)
