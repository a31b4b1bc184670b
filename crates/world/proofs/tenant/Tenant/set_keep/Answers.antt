use Rattle.std.proofs.Common.{[], refl, arith, rules}
use Rattle.plain_store.specs.declared.step.Act.TheVariants.{Keep as SetKeep}
use Rattle.plain_store.specs.declared.answer.Answer.TheVariants.{Keeps}
use Rattle.plain_store.specs.History.{moment}
use Rattle.world.proofs.Moments.{takes_by, table_quiet, sets_keep, sessions_stay}
use Rattle.world.proofs.tenant.Tenant.set_keep.Goals as goal

pub returns : goal.returns
returns c = record {
  takes = λ setup history is stands.
      let keep = c.args.keep in
      let old = c.args.self.now in
      let m = moment (SetKeep keep) (Keeps keep) [] in
      takes_by setup history (SetKeep keep) (Keeps keep) (record { limits = old.limits; keep = keep; table = old.table; sessions = old.sessions; readings = old.readings }) m (sets_keep setup history keep) refl (omega arith) (record {
        table = table_quiet m history old.table refl refl stands.table;
        sessions = sessions_stay setup history m old.sessions stands.sessions refl;
        keep = refl;
      });
  limits = search rules;
}
