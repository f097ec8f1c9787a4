use Rattle.std.proofs.Common.{◌≡◌, ◌∷◌, ◌+◌, ◌-◌, length, take, drop, map, List}
use Rattle.tam_read.specs.declared.line.Line.{Line}
use Rattle.tam_read.specs.Naming.{faults_within}
use Rattle.tam_read.specs.Building.{built, nothing_built}
use Rattle.tam_read.specs.BuildingView.{built_so_far}
use Rattle.tam_read.specs.LineView.{sayings_of, numbered}
use Rattle.tam_read.specs.KnownView.{known}
use Rattle.tam_read.proofs.Bodies.{first-and-others, built-on, faults-on, refused-here, nodes-on, owners-on}
use Rattle.tam_read.proofs.body.build_body.Goals as goal

pub loop-rest-preserved : goal.loop-rest-preserved
loop-rest-preserved c =
    let k = known c.args.names.now in
    let line = c.line-item.result in
    let rest = c.loop-rest.rest.now in
    let others : List Line = take (length rest - 1) (drop 1 rest) in
    let parts : rest ≡ line ∷ others = first-and-others rest line c.in-len1-up.len_at_least c.line-item.is in
    let h = c.loop-rest.invariant in
    let old = built_so_far c.loop-rest.built in
    let new = built_so_far c.build_line.new.built in
    let ok = c.in-Ok.ensures.ok in
    record {
      so_far = built-on k line rest others parts old new (built k nothing_built (sayings_of c.args.lines.now)) h.so_far ok;
      faults = faults-on k line rest others parts (faults_within k (map numbered c.args.lines.now)) h.faults c.in-Ok.ensures.faultless;
      nodes = nodes-on k line rest others parts old new (length c.args.lines.now) h.nodes ok;
      owners = owners-on k line rest others parts old new (length c.args.lines.now + 1) h.owners ok;
    }

pub returns-in-Err-clause-refused : goal.returns-in-Err-clause-refused
returns-in-Err-clause-refused c =
    let k = known c.args.names.now in
    let line = c.line-item.result in
    let rest = c.loop-rest.rest.now in
    let others : List Line = take (length rest - 1) (drop 1 rest) in
    let parts : rest ≡ line ∷ others = first-and-others rest line c.in-len1-up.len_at_least c.line-item.is in
    refused-here k line rest others parts
    (faults_within k (map numbered c.args.lines.now)) c.in-Err.refused c.loop-rest.invariant.faults c.in-Err.ensures.refused
