-- The text of what a level tells is the text of its run.
use Rattle.std.proofs.Common.{refl}
use Rattle.tam_eval.specs.GraphRuns.{graph_text}
use Rattle.tl0_code.specs.ThreadRuns.{thread_text}
use Rattle.rv_keep.specs.HostRuns.{image_text}
use Rattle.tam_run.specs.RightRuns.{TextsAreTold}

-- so it is, level by level
pub texts-told : TextsAreTold
unfolding graph_text thread_text image_text
texts-told = record { graph = λ g args order limits. refl; threads = λ g args order limits. refl; images = λ image args order limits. refl }
