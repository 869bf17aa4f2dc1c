use Rattle.std.proofs.Common.{◌∙◌, ap, arith}
use Rattle.map_publish.specs.History.{entries_of}
use Rattle.priv_map.specs.MapState.{state_in}
use Rattle.priv_map.specs.declared.acting.Acting.{Acting}
use Rattle.script_run.proofs.Entering.{read_now, read_whole}
use Rattle.script_run.proofs.login.log_in.Goals as goal

pub returns-clause-entered : goal.returns-clause-entered
returns-clause-entered c =
    let entries = entries_of c.args.published.now in
    let read = read_whole c.length.result entries c.in_ok-acting.acting (state_in c.map-2.result.now) c.length.ensures c.map-2.ensures c.in_ok-acting.ensures.read in
    record {
      account = ap (λ (a : Acting). a.account) c.new-2.ensures.acting ∙ c.in_ok-acting.ensures.account;
      roles = ap (λ (a : Acting). a.roles) c.new-2.ensures.acting ∙ c.in_ok-acting.ensures.roles ∙ c.new.ensures;
      no_schema = ap (λ (a : Acting). a.current) c.new-2.ensures.acting ∙ c.in_ok-acting.ensures.current;
      points = c.new-2.ensures.points ∙ (λ i. record { global = c.length.ensures i; schema = c.length.ensures i });
      read = read_now entries c.in_ok-acting.acting c.new-2.result (state_in c.map-2.result.now) c.map-2.ensures c.new-2.ensures.acting c.in_ok-acting.ensures.read;
      stands = c.new-2.ensures.read entries (omega (arith, c.length.ensures)) read;
    }
