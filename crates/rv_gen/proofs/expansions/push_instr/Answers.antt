use Rattle.rv_gen.proofs.expansions.push_instr.Goals as goal

pub returns-in-Switch : goal.returns-in-Switch
returns-in-Switch c = record { ok = rw c.in-Switch.is c.push_switch.ensures.ok }

pub returns-in-Ifetch : goal.returns-in-Ifetch
returns-in-Ifetch c = record { ok = rw c.in-Ifetch.is c.push_ifetch.ensures.ok }

pub returns-in-Istore : goal.returns-in-Istore
returns-in-Istore c = record { ok = rw c.in-Istore.is c.push_istore.ensures.ok }
