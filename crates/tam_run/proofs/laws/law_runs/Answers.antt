use Rattle.tam_run.proofs.laws.law_runs.Goals as goal
use Rattle.tam_run.proofs.LevelTexts.{texts-told}
use Rattle.tam_run.proofs.QuietRuns.{runs_are-borne, runs_are-right, room_is-quiet, live_room-is-quiet, no_result-is_missing}
use Rattle.tam_run.proofs.QuietRuns.{quiet_runs-agree, quiet_levels-agree}

pub returns : goal.returns
returns c = record {
  borne = runs_are-borne c.law_threads.ensures.borne c.law_images.ensures.reports;
  right = runs_are-right;
  room = room_is-quiet;
  live = live_room-is-quiet c.law_quiet.ensures.quiet c.law_room.ensures.room;
  agree = quiet_runs-agree;
  levels_agree = quiet_levels-agree (runs_are-borne c.law_threads.ensures.borne c.law_images.ensures.reports);
  not_missing = no_result-is_missing;
  machine = c.law_images.ensures.reports;
  texts = texts-told;
}
