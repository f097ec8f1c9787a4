use Rattle.tam_judge_tests.proofs.WholeBlocks.{whole-block}
use Rattle.tam_judge_tests.proofs.partitions.is_valid.Goals as goal

pub check_parts-requires : goal.check_parts-requires
check_parts-requires c = record { whole = whole-block c.in_ok-block.block 7 c.in_ok-parts.parts c.in_ok-block.ensures.value c.in_ok-parts.ensures.value }
