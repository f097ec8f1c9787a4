use Rattle.std.proofs.Common.{◌∙◌, ap, length}
use Rattle.tam_list.proofs.Inside.{dependences-inside, demands-inside, dependences-again, demands-again}
use Rattle.tam_list.proofs.block_sets.push_sets_line.Goals as goal

pub members-requires : goal.members-requires
members-requires c = record {
  below = dependences-again c.args.block.now c.args.place (length c.vertices.result.now) c.args.inlets.now (ap length c.vertices.ensures.value)
      c.requires.depends;
}

pub members-requires-2 : goal.members-requires-2
members-requires-2 c = record {
  below = demands-again c.args.block.now c.args.place (length c.vertices.result.now) c.args.outlets.now (ap length c.vertices.ensures.value) c.requires.demands;
}

pub push_places-requires : goal.push_places-requires
push_places-requires c = record {
  in_range =
      dependences-inside c.args.block.now c.args.place c.deref.result.now
      (c.deref.ensures.value ∙ (c.in_ok-members.ensures.value ∙ c.requires.depends));
}

pub push_places-requires-2 : goal.push_places-requires-2
push_places-requires-2 c = record {
  in_range =
      demands-inside c.args.block.now c.args.place c.deref-2.result.now
      (c.deref-2.ensures.value ∙ (c.in_ok-members-2.ensures.value ∙ c.requires.demands));
}
