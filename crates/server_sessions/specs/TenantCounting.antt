-- What is counted of tenants, and as what answers are.
use Rattle.std.specs.Prelude.{ℕ, ◌+◌, ◌*◌, Option, Some, None, cond, nat_lt}
use Rattle.std.specs.Option.{option_map}
use Rattle.hub.specs.Seats.{SeatView}
use Rattle.plain_store.specs.Numbers.{number_of}
use Rattle.plain_store.specs.declared.answer.Answer.{Answer}
use Rattle.plain_store.specs.declared.answer.Answer.TheVariants as answers
use Rattle.plain_store.specs.declared.refusal.Refusal.TheVariants.{BadLine}
use Rattle.server_sessions.specs.Counting.{numbers}
use Rattle.server_sessions.specs.Said.{Said, Answers, ReadyAs, Informs}
use Rattle.server_sessions.specs.declared.line_session.SessionEnd.{SessionEnd}
use Rattle.server_sessions.specs.declared.line_session.SessionEnd.TheVariants.{Silent, Bye, Unread, Refused}
use Rattle.server_sessions.specs.declared.tenant_counts.TenantCounted.{TenantCounted}
use Rattle.server_sessions.specs.declared.tenant_counts.TenantCount.{TenantCount}
use Rattle.server_sessions.specs.declared.tenant_counts.TenantCount.TheVariants.{Opened, Closed, Puts, Gets, Finds, Restarts, Refusals}

-- which of a tenant's counts it is; none where no refusal has the number
abbrev pub kind_number : TenantCount → Option ℕ
kind_number Opened = Some 0
kind_number Closed = Some 1
kind_number Puts = Some 2
kind_number Gets = Some 3
kind_number Finds = Some 4
kind_number Restarts = Some 5
kind_number (Refusals number) = cond (nat_lt number numbers) (Some (6 + number)) None

-- where it stands among those of all tenants
abbrev pub place_of : ℕ → TenantCount → Option ℕ
place_of tenant what = option_map (λ nth. tenant * 49 + nth) (kind_number what)

-- a session that was opened, and a line that was done, read, listed, refused or to begin anew, count for their tenant
abbrev pub counted_of_tenant : Answer → Option TenantCount
counted_of_tenant (answers.Ready counter) = Some Opened
counted_of_tenant (answers.Done stamp) = Some Puts
counted_of_tenant (answers.Read readings) = Some Gets
counted_of_tenant (answers.Listed readings) = Some Finds
counted_of_tenant (answers.Refused cause) = Some (Refusals (number_of cause))
counted_of_tenant (answers.Ended cause rows) = Some (Refusals (number_of cause))
counted_of_tenant (answers.Restart key floor) = Some Restarts
counted_of_tenant (answers.PutBegun stamp rows) = None
counted_of_tenant (answers.GetBegun rows) = None
counted_of_tenant (answers.FindBegun rows) = None
counted_of_tenant (answers.Replied row reply) = None
counted_of_tenant answers.Ignored = None
counted_of_tenant answers.Wait = None
counted_of_tenant (answers.Decided stamp rows) = None
counted_of_tenant (answers.Ask rows) = None
counted_of_tenant (answers.BeginsRead rows) = None
counted_of_tenant answers.Lost = None
counted_of_tenant answers.Stopped = None
counted_of_tenant (answers.Sent rows) = None
counted_of_tenant (answers.Freed count) = None
counted_of_tenant (answers.Keeps keep) = None

-- of what a line is answered, the store's answers count so, and a session whose client's number was free
abbrev pub said_of_tenant : Said → Option TenantCount
said_of_tenant (Answers answer) = counted_of_tenant answer
said_of_tenant (ReadyAs counter client) = Some Opened
said_of_tenant (Informs store newest) = None

-- the last answer of a session that ended so, where it is a refusal
abbrev pub last_of_tenant : SessionEnd → Option TenantCount
last_of_tenant Silent = None
last_of_tenant Bye = None
last_of_tenant Unread = Some (Refusals (number_of BadLine))
last_of_tenant (Refused cause) = Some (Refusals (number_of cause))

-- whose line it is: the seat's tenant's; without a seat, that of the tenant that the last hello named
abbrev pub whose : Option SeatView → Option ℕ → Option ℕ
whose (Some seat) named = Some seat.name.tenant
whose None named = named

-- the receipt of what was counted of a tenant
abbrev pub receipt_of : TenantCount → ℕ → TenantCounted
receipt_of what tenant = record { tenant = tenant; what = what }

-- the receipt where there is a tenant and something to be counted of it
abbrev pub counted_for : Option ℕ → Option TenantCount → Option TenantCounted
counted_for tenant None = None
counted_for tenant (Some what) = option_map (receipt_of what) tenant
