use Rattle.std.proofs.Common.{sym, subst}
use Rattle.tam_edge.specs.Faults.{CountsRead}
use Rattle.tam_edge.specs.HostFiles.{faults_of}
use Rattle.tam_edge.proofs.MemFilesLemmas.{lent_back}
use Rattle.tam_edge.proofs.host_files.HostFilesFiles.read.Goals as goal

pub returns-clause-counted : goal.returns-clause-counted
returns-clause-counted g c =
    let back = lent_back c.place_of.new.opened _ c.read_at-given.new.opened c.deref_mut.ensures.value c.read_at-given.auto.opened c.deref_mut.ensures.len in
    let counted : CountsRead (faults_of c.place_of.new.opened.items c.args.name.now) (faults_of c.read_at-given.new.opened c.args.name.now)
    c.read_at-given.result =
    rw c.deref_mut.ensures.value at c.read_at-given.ensures.counted in
    rw (← c.self.view_is, ← c.in_ok-i.ensures.kept c.args.name.now)
    (subst (λ l. CountsRead (faults_of c.place_of.new.opened.items c.args.name.now) (faults_of l c.args.name.now) c.read_at-given.result) (sym back) counted)
