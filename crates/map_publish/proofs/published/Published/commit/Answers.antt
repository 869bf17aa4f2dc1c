use Rattle.std.proofs.Common.{◌≡◌, ap, ◌∷◌, ◌++◌, [], arith, rules}
use Rattle.std.proofs.lemmas.Grind.{common_steps}
use Rattle.acl_model.specs.State.{opening as opening_state}
use Rattle.priv_map.specs.MapState.{map_after, state_in}
use Rattle.map_publish.proofs.Histories.{stands_after}
use Rattle.map_publish.proofs.published.Published.commit.Goals as goal

pub invariant_of-self : goal.invariant_of-self
invariant_of-self c =
    let pushed : c.push.new.self.items ≡ c.args.self.now.entries.items ++ c.args.next.entry ∷ [] = first_of (search rules, grind (arith, common_steps)) in
    record {
      within = first_of (search rules, grind (arith, common_steps));
      stands = stands_after (state_in c.commit.new.self) (state_in c.args.self.now.map) (state_in (map_after c.args.next.change c.args.self.now.map))
          c.args.self.now.entries.items c.push.new.self.items c.args.next.entry opening_state pushed c.args.self.now.stands c.requires.next.state (ap state_in c.commit.ensures);
    }
