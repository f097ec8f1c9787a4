use Rattle.std.proofs.Common.{◌≡◌, ◌∙◌, ap, ℕ, ◌∷◌, []}
use Rattle.tam_graph.specs.Graphs.{Code, code_of, node_where, is_ret}
use Rattle.tam_world.specs.Worlds.{its_code, activation_at}
use Rattle.tam_world.specs.Sought.{sought_in}
use Rattle.tam_world.specs.declared.finding.Sought.TheVariants.{Ret}
use Rattle.tam_world.proofs.Unfed.{message-inside}
use Rattle.tam_world.proofs.messages.result_message.Goals as goal

pub returns-in-Some : goal.returns-in-Some
returns-in-Some c =
    let w = c.args.world.now in
    let code_is : code_of c.args.program.now c.code_at.result ≡ its_code c.args.program.now w c.caller_at-frame.result =
    ap (code_of c.args.program.now) c.code_at.ensures.value in
    let found : c.in-Some.inlet ∷ [] ≡ node_where (its_code c.args.program.now w c.caller_at-frame.result) (is_ret
    (activation_at w c.args.i).call c.args.place) =
    c.in-Some.ensures.value ∙ ap (λ (k : Code). sought_in k (Ret c.call_at-call.result c.args.place)) code_is
    ∙ ap (λ (f : ℕ). node_where (its_code c.args.program.now w c.caller_at-frame.result) (is_ret f c.args.place)) c.call_at-call.ensures.value in
    record {
      value = message-inside c.args.program.now w c.args.i c.args.place c.args.word c.caller_at-frame.result
          (c.in-Some.inlet ∷ []) c.caller_at-frame.ensures.value c.if-frame.false found;
    }
