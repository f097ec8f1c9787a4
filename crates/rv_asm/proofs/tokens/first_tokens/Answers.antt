-- One token more is cut off, or no more follow.
use Rattle.std.proofs.Common.{◌≡◌, ℕ, List, ◌++◌, ◌-◌, Some, None, Bor, sym, ap, ◌∙◌, arith}
use Rattle.rv_asm.specs.Splitting.{first_token, tokens_up_to}
use Rattle.std.specs.Option.{option_map}
use Rattle.rv_asm.specs.StatementView.{texts, parts}
use Rattle.rv_asm.proofs.CutTokens.{cut_off, none_left, one_more, pushed, no_more}
use Rattle.rv_asm.proofs.tokens.first_tokens.Goals as goal

pub loop-left-preserved : goal.loop-left-preserved
loop-left-preserved c =
    let is : c.split_token.result ≡ Some (c.in-Some.token, c.in-Some.after) = c.in-Some.is in
    let first : first_token c.loop-left.rest.now ≡ Some (c.in-Some.token.now, c.in-Some.after.now) =
    sym c.split_token.ensures.value ∙ ap (option_map parts) is in
    let more = one_more c.loop-left.left c.loop-left.rest.now c.in-Some.token.now c.in-Some.after.now (omega arith) first in
    let left : List (List ℕ) = tokens_up_to (c.loop-left.left - 1) c.in-Some.after.now in
    ap (λ (x : List (Bor (List ℕ))). texts x ++ left) c.in_ok-push.ensures.items
    ∙ (pushed c.loop-left.tokens.items c.in-Some.token left
    ∙ (ap (λ (x : List (List ℕ)). texts c.loop-left.tokens.items ++ x) (sym more) ∙ c.loop-left.invariant))

pub returns-in_default : goal.returns-in_default
returns-in_default c =
    let first : first_token c.loop-left.rest.now ≡ None = cc in
    record {
      value = no_more (texts c.loop-left.tokens.items) (tokens_up_to 7 c.args.line.now) c.loop-left.left c.loop-left.rest.now
          (none_left c.loop-left.left c.loop-left.rest.now first) c.loop-left.invariant ∙ cut_off 7 c.args.line.now;
    }

pub returns : goal.returns
returns c =
    let none : c.loop-left.left ≡ 0 = omega arith in
    record {
      value = no_more (texts c.loop-left.tokens.items) (tokens_up_to 7 c.args.line.now) c.loop-left.left c.loop-left.rest.now
          (ap (λ (x : ℕ). tokens_up_to x c.loop-left.rest.now) none) c.loop-left.invariant ∙ cut_off 7 c.args.line.now;
    }
