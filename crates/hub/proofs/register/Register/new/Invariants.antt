use Rattle.std.proofs.Common.{◌≡◌, length}
use Rattle.std.specs.Prelude.{All}
use Rattle.indexmap.specs.IndexMap.{IsEmpty}
use Rattle.hub.proofs.register.Register.new.Given as goal

-- so many tenants, and none has a client
abbrev pub invariant-loop-tenant : goal.invariant-loop-tenant
invariant-loop-tenant l = record { clients : All (λ rows. IsEmpty rows) l.rows.items; tenants : length l.rows.items ≡ l._tenant }
