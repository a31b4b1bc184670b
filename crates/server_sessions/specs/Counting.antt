-- As what answers are counted.
use Rattle.std.specs.Prelude.{◌≡◌, ℕ, Option, Some, None, IsSomeAnd}
use Rattle.plain_store.specs.Numbers.{number_of}
use Rattle.plain_store.specs.declared.answer.Answer.{Answer}
use Rattle.plain_store.specs.declared.answer.Answer.TheVariants as answers
use Rattle.plain_store.specs.declared.refusal.Refusal.TheVariants.{BadLine}
use Rattle.server_sessions.specs.Said.{Said, Answers, ReadyAs, Informs}
use Rattle.server_sessions.specs.declared.line_session.SessionEnd.{SessionEnd}
use Rattle.server_sessions.specs.declared.line_session.SessionEnd.TheVariants.{Silent, Bye, Unread, Refused}
use Rattle.server_sessions.specs.declared.answer_counts.Counted.{Counted}
use Rattle.server_sessions.specs.declared.answer_counts.CountedAs.{CountedAs}
use Rattle.server_sessions.specs.declared.answer_counts.CountedAs.TheVariants.{Refusal, Restart}
use Rattle.server_sessions.specs.declared.tenant_counts.TenantCounted.{TenantCounted}

-- the numbers of refusals are below this
abbrev pub numbers : ℕ
numbers = 43

-- a refusal, and an end by one, is counted by its number, and a restart as one; no other answer is counted
abbrev pub counted_as : Answer → Option CountedAs
counted_as (answers.Refused cause) = Some (Refusal (number_of cause))
counted_as (answers.Ended cause rows) = Some (Refusal (number_of cause))
counted_as (answers.Restart key floor) = Some Restart
counted_as (answers.Ready counter) = None
counted_as (answers.PutBegun stamp rows) = None
counted_as (answers.GetBegun rows) = None
counted_as (answers.FindBegun rows) = None
counted_as (answers.Replied row reply) = None
counted_as answers.Ignored = None
counted_as answers.Wait = None
counted_as (answers.Decided stamp rows) = None
counted_as (answers.Done stamp) = None
counted_as (answers.Ask rows) = None
counted_as (answers.BeginsRead rows) = None
counted_as (answers.Read readings) = None
counted_as (answers.Listed readings) = None
counted_as answers.Lost = None
counted_as answers.Stopped = None
counted_as (answers.Sent rows) = None
counted_as (answers.Freed count) = None
counted_as (answers.Keeps keep) = None

-- of what a line is answered, the store's answers alone are counted
abbrev pub counted_said : Said → Option CountedAs
counted_said (Answers answer) = counted_as answer
counted_said (ReadyAs counter client) = None
counted_said (Informs store newest) = None

-- the last answer of a session that ended so, where it is a refusal
abbrev pub counted_last : SessionEnd → Option CountedAs
counted_last Silent = None
counted_last Bye = None
counted_last Unread = Some (Refusal (number_of BadLine))
counted_last (Refused cause) = Some (Refusal (number_of cause))

-- the receipt of an answer that was counted so: by its cause, and of its tenant
abbrev pub IsReceipt : Option CountedAs → Option TenantCounted → Counted → Type 0
IsReceipt kind of_tenant counted = (counted.kind ≡ kind) × (counted.of_tenant ≡ of_tenant)

-- there is that receipt where there are counts
abbrev pub IsCounted : {X : Type 0} → Option X → Option CountedAs → Option TenantCounted → Option Counted → Type 0
IsCounted None kind of_tenant counted = Unit {0}
IsCounted (Some counts) kind of_tenant counted = IsSomeAnd counted (IsReceipt kind of_tenant)
