use Rattle.std.proofs.Common.{◌≡◌, [], ◌∙◌, ap, arith, length, get_or, List, ℕ}
use Rattle.std.proofs.lemmas.List.{get_or_read}
use Rattle.tam_quotient.specs.declared.ways.Ways.{Ways}
use Rattle.tam_quotient.specs.Tables.{column, entered, permitted}
use Rattle.tam_quotient.proofs.Tabling.{get-table, length-table}
use Rattle.tam_quotient.proofs.gather.ways_to.Goals as goal

pub bounds-columns-k : goal.bounds-columns-k
bounds-columns-k c =
    let n = ap length c.requires.columns ∙ length-table (column c.args.leads.now) (length c.args.leads.now) in omega (arith, n, c.requires.there)

-- ways with the same sets are the same
same-ways : {d e f g p q r s : List ℕ} → d ≡ p → e ≡ q → f ≡ r → g ≡ s
    → ◌≡◌ {A = Ways} (record { ahead = d; behind = e; entering = f; allowed = g }) (record { ahead = p; behind = q; entering = r; allowed = s })
same-ways h i j k = cc

pub returns : goal.returns
returns c =
    let n = ap length c.requires.columns ∙ length-table (column c.args.leads.now) (length c.args.leads.now) in
    let ahead = get_or_read c.args.leads.now c.args.k c.index-leads-k.result c.requires.there c.index-leads-k.is [] in
    let behind : c.index-columns-k.result ≡ column c.args.leads.now c.args.k =
    get_or_read c.args.columns.now c.args.k c.index-columns-k.result (omega (arith, n, c.requires.there)) c.index-columns-k.is []
    ∙ (ap (λ cs. get_or cs c.args.k []) c.requires.columns
    ∙ get-table (column c.args.leads.now) (length c.args.leads.now) c.args.k [] c.requires.there) in
    record {
      value = same-ways ahead behind (c.entering.ensures.value ∙ ap (entered c.args.inlets.now c.args.classes.now) behind)
          (c.allowed.ensures.value ∙ ap (λ s. permitted c.args.inlets.now c.args.outlets.now c.args.classes.now s c.args.depends.now) ahead);
    }
