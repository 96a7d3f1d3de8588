use mathlib.Core.Path.{ap}
use Rattle.std.proofs.lemmas.Result.{err_from_is_err_and}
use Rattle.demand.specs.Card.{card_of}
use Rattle.demand.proofs.CardLaws.{card_viewed}
use Rattle.demand.proofs.Demands.{meets_demand_3}
use Rattle.demand.proofs.Accurate.{has_accurate_levels}
use Rattle.demand.proofs.card.card.Goals as goal

pub returns-in_err-view : goal.returns-in_err-view
returns-in_err-view c =
    let f = c.args.file.now in
    let p = err_from_is_err_and c.from_residual.result c.from_residual.ensures.1 in record {
      value = rw (p.1, p.2) (ap card_of c.in_err-view.ensures);
      meets_demand_3 = meets_demand_3 f;
      has_accurate_levels = has_accurate_levels f;
    }

pub returns : goal.returns
returns c =
    let f = c.args.file.now in record {
      value = card_viewed f _ c.in_ok-view.ensures;
      meets_demand_3 = meets_demand_3 f;
      has_accurate_levels = has_accurate_levels f;
    }
