-- A version beside the tenant whose it is, and the chain that it stands in.
use Rattle.std.specs.Prelude.{ℕ}
use Rattle.version_chain.specs.declared.version.Version.{Version}

pub record Node : Type 0 where
  pub version : Version
  -- the number of the tenant
  pub tenant : ℕ
  -- the number of the chain, among those of the tenant
  pub chain : ℕ
