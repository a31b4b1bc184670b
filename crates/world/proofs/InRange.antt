-- A message of a run goes to a partition that there is, or comes from one: for `Tenant::deliver_call`.
use Rattle.std.proofs.Common.{◌≡◌, ℕ, ◌<◌, sym, subst, Some}
use Rattle.std.proofs.lemmas.Nat.{mod_below}
use Rattle.plain_store.specs.Words.{◌∈◌, Key, Setup, home}
use Rattle.plain_store.specs.declared.calls.Call.{Call}
use Rattle.plain_store.specs.declared.calls.Call.TheVariants.{Prepare, Commit, Get, Found, Discard}
use Rattle.plain_store.specs.declared.message.Message.{Message}
use Rattle.plain_store.specs.History.{History, messages, message_at, Intent, Writes, Gets, Finds}
use Rattle.plain_store.specs.Laws.{IsCallOf}
use Rattle.plain_store.proofs.Runs.{sends_home}
use Rattle.plain_store.proofs.StaysTrue.{at_is}
use Rattle.tenant_sessions.specs.Sessions.{IsRun}

module _ (setup : Setup) (some : 0 < setup.partitions) where
  home_within : (key : Key) → home setup key < setup.partitions
  unfolding home
  home_within key = mod_below _ setup.partitions some

  at_home : (key : Key) (partition : ℕ) → partition ≡ home setup key → partition < setup.partitions
  at_home key partition is = subst (λ n. n < setup.partitions) (sym is) (home_within key)

  call_within : (request : Intent) (partition : ℕ) (call : Call) → IsCallOf setup request partition call → partition < setup.partitions
  call_within (Writes stamp items) partition (Prepare version) is = at_home version.key partition is.2
  call_within (Writes stamp items) partition (Commit s) is = at_home is.1.0 partition is.1.2
  call_within (Writes stamp items) partition (Discard s) is = at_home is.1.0 partition is.1.2
  call_within (Gets keys) partition (Get key at) is = at_home key partition is.1
  call_within (Finds tag) partition (Get key at) is = at_home key partition is
  call_within (Finds tag) partition (Found asked) is = is.1
  call_within request partition call is = absurd is

  -- a message that a row of a run holds
  pub partition_within : (history : History) (row : ℕ) (message : Message) → IsRun setup history → message_at history row ≡ Some message → message.partition < setup.partitions
  partition_within history row message is at =
      let home = sends_home setup is.acts is.valid message (subst (λ (h : History). message ∈ messages h) is.is (at_is history row message at)) in
      call_within home.sender.request message.partition message.call home.goes
