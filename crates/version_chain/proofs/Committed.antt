-- For `Chains::nth_committed` and `nth`. The versions of a chain, along a walk.
use Rattle.std.proofs.Common.{◌≡◌, ◌≢◌, ℕ, zero, suc, ◌-◌, Bool, true, false, cond, List, ◌∷◌, slice_get, filter, map, Option, Some, refl, sym, ap, ◌∙◌, arith}
use Rattle.stamps.specs.Record.{Record}
use Rattle.version_chain.specs.declared.version.Version.{Version}
use Rattle.version_chain.specs.Chain.{committed_records}

pub committed-skip : (version : Version) (rest : List Version) → version.committed ≡ false → committed_records (version ∷ rest) ≡ committed_records rest
committed-skip version rest not = ap (λ (b : Bool). map (λ (v : Version). v.prepared) (cond b (version ∷ filter (λ (v : Version). v.committed) rest) (filter (λ (v : Version). v.committed) rest))) not

pub committed-take : (version : Version) (rest : List Version) → version.committed ≡ true → committed_records (version ∷ rest) ≡ version.prepared ∷ committed_records rest
committed-take version rest is = ap (λ (b : Bool). map (λ (v : Version). v.prepared) (cond b (version ∷ filter (λ (v : Version). v.committed) rest) (filter (λ (v : Version). v.committed) rest))) is

-- the record so many committed ones further on is that before, where a version is passed
pub nth_skip : (rest later : List Version) (version : Version) (left : ℕ) (found : Option Record) → rest ≡ version ∷ later → version.committed ≡ false → slice_get (committed_records rest) left ≡ found → slice_get (committed_records later) left ≡ found
nth_skip rest later version left found is not before = ap (λ records. slice_get records left) (sym (ap committed_records is ∙ committed-skip version later not)) ∙ before

pub nth_next : (rest later : List Version) (version : Version) (left : ℕ) (found : Option Record) → rest ≡ version ∷ later → version.committed ≡ true → left ≢ 0 → slice_get (committed_records rest) left ≡ found → slice_get (committed_records later) (left - 1) ≡ found
nth_next rest later version zero found is one more before = absurd (more refl)
nth_next rest later version (suc left) found is one more before =
    let less : suc left - 1 ≡ left = omega arith in
    ap (slice_get (committed_records later)) less ∙ ap (λ records. slice_get records (suc left)) (sym (ap committed_records is ∙ committed-take version later one)) ∙ before

pub nth_here : (rest later : List Version) (version : Version) (left : ℕ) → rest ≡ version ∷ later → version.committed ≡ true → left ≡ 0 → slice_get (committed_records rest) left ≡ Some version.prepared
nth_here rest later version left is one none = ap (slice_get (committed_records rest)) none ∙ ap (λ records. slice_get records 0) (ap committed_records is ∙ committed-take version later one)

-- the version so many further on, of all versions
pub nth_later : (rest later : List Version) (version : Version) (left : ℕ) (found : Option Version) → rest ≡ version ∷ later → left ≢ 0 → slice_get rest left ≡ found → slice_get later (left - 1) ≡ found
nth_later rest later version zero found is more before = absurd (more refl)
nth_later rest later version (suc left) found is more before =
    let less : suc left - 1 ≡ left = omega arith in
    ap (slice_get later) less ∙ ap (λ vs. slice_get vs (suc left)) (sym is) ∙ before

pub nth_first : (rest later : List Version) (version : Version) (left : ℕ) → rest ≡ version ∷ later → left ≡ 0 → slice_get rest left ≡ Some version
nth_first rest later version left is none = ap (slice_get rest) none ∙ ap (λ vs. slice_get vs 0) is
