-- For `Chains`: link, unlink, mark and seek. Paths are joined and go on.
use Rattle.std.proofs.Common.{ℕ, ◌≤◌, List, [], ◌∷◌, ◌++◌, Option, Some, None, refl}
use Rattle.version_chain.specs.declared.version.Version.{Version}
use Rattle.version_chain.specs.Chain.{Cells, IsPath}
use Rattle.version_chain.specs.Place.{EndsAt, NoneBelow}

module _ (cells : Cells) (tenant chain : ℕ) where
  pub path-append : (from : Option ℕ) (above below : List Version) (here to : Option ℕ) → IsPath cells tenant chain from above here → IsPath cells tenant chain here below to → IsPath cells tenant chain from (above ++ below) to
  path-append from [] below here to first second = rw first second
  path-append from (version ∷ above) below here to first second = (first.0, first.1, first.2, first.3, path-append first.1 above below here to first.4 second)

  pub ends-path : (from : Option ℕ) (above : List Version) (last here : Option ℕ) → EndsAt cells tenant chain from above last here → IsPath cells tenant chain from above here
  ends-path from above None here ends = rw ends.0 ends.1
  ends-path from above (Some last) here ends = rw ends.2 (path-append from ends.0 (ends.1 ∷ []) (Some last) here ends.3 (last, here, refl, ends.4, refl))

pub NoneBelow-push : (stamp : ℕ) (above : List Version) (version : Version) → NoneBelow stamp above → stamp ≤ version.prepared.stamp → NoneBelow stamp (above ++ version ∷ [])
NoneBelow-push stamp [] version none more = (more, tt)
NoneBelow-push stamp (first ∷ above) version none more = (none.0, NoneBelow-push stamp above version none.1 more)
