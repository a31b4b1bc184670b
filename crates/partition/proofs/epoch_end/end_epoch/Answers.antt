use Rattle.std.proofs.Common.{rules, ◌≡◌, ◌+◌, ℕ, [], None, nat_eq, length, refl, sym, subst}
use Rattle.indexmap.specs.IndexMap.{get}
use Rattle.partition.specs.Accounts.{Account, account_of, next_account}
use Rattle.partition.specs.Books.{IsKept}
use Rattle.partition.proofs.PartsAtCut.{cell_has_log, ended, next_kept, same_kept}
use Rattle.partition.proofs.epoch_end.end_epoch.Goals as goal
use Rattle.partition.proofs.epoch_end.end_epoch.Goals.{After-drop-lasts-4}

pub base-requires : goal.base-requires
base-requires c = cell_has_log c.args.shelf.now c.args.tenant (account_of c.args.journal.now) c.args.lasts.now c.requires.kept

next_is : (c : After-drop-lasts-4) → next_account (account_of c.args.journal.now) c.in-Ok.base
    ≡ account_of (record { limits = c.args.journal.now.limits; number = c.args.journal.now.number + 1; before = c.args.journal.now.before + c.len.result; base = c.replace-begun.new.dest; events = c.take_on-events.new.self })
next_is c =
    let long : length c.args.journal.now.events.items ≡ c.len.result = sym c.len.ensures.count in
    let begun = sym c.replace-begun.ensures.after in
    let blank : [] ≡ c.take_on-events.new.self.items = sym c.take_on-events.ensures.empty in
    λ i. record { limits = c.args.journal.now.limits; start = record { number = c.args.journal.now.number + 1; before = c.args.journal.now.before + long i; base = begun i }; events = blank i }

pub returns-clause-whole : goal.returns-clause-whole
returns-clause-whole c =
    let at = (goal.at.returns-clause-whole c).After-drop-lasts-4 in
    let none : (seat : ℕ) → get nat_eq c.new.result seat ≡ None = search rules in
    record {
      kept = subst (λ (a : Account). IsKept c.base.new.self c.args.tenant a c.new.result) (next_is at)
          (same_kept c.args.shelf.now c.base.new.self c.args.tenant _ c.new.result c.base.ensures.same
          (next_kept c.args.shelf.now c.args.tenant (account_of c.args.journal.now) c.args.lasts.now c.requires.kept c.in-Ok.base c.in-Ok.ensures.base c.new.result c.new.ensures.unique none));
      counted = search rules;
    }

pub returns-clause-ended : goal.returns-clause-ended
returns-clause-ended c =
    let at = (goal.at.returns-clause-ended c).After-drop-lasts-4 in
    record {
      number = refl;
      base = search rules;
      events = search rules;
      sound = search rules;
      blank = c.take_on-events.ensures.empty;
      begun = (c.in-Ok.base, ended c.args.shelf.now c.args.tenant (account_of c.args.journal.now) c.args.lasts.now c.requires.kept c.in-Ok.base c.in-Ok.ensures.base, sym (next_is at));
    }

pub returns-in_default-clause-whole : goal.returns-in_default-clause-whole
returns-in_default-clause-whole c = record {
  kept = same_kept c.args.shelf.now c.base.new.self c.args.tenant (account_of c.args.journal.now) c.args.lasts.now c.base.ensures.same c.requires.kept;
  counted = c.requires.counted;
}
