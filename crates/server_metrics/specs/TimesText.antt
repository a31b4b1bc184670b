-- How long lines took, as a histogram of Prometheus.
use Rattle.std.specs.Prelude.{◌≤◌, ℕ, ◌≡◌, ◌++◌, List, [], ◌∷◌, codes, decimal}
use Rattle.std.specs.List.{flat_map}
use Rattle.server_metrics.specs.Families.{name_text}
use Rattle.server_metrics.specs.Figures.{family_text, labels_text, number_text}
use Rattle.server_metrics.specs.declared.families.Family.{Family}
use Rattle.server_metrics.specs.declared.times.LineSeconds.{LineSeconds}
use Rattle.server_metrics.specs.declared.times.TimeRow.{TimeRow}

-- a line of a family, whose name has this end
abbrev pub part_text : Family → List ℕ → List (List ℕ × List ℕ) → ℕ → List ℕ
part_text family end labels number = name_text family ++ (end ++ (labels_text labels ++ number_text number))

-- how many lines took no longer than so many seconds
abbrev pub bucket_text : Family → TimeRow → List ℕ
bucket_text family row = part_text family (codes "_bucket") ((codes "le", row.within.now) ∷ []) row.lines

abbrev pub buckets_text : Family → List TimeRow → List ℕ
buckets_text family rows = flat_map (bucket_text family) rows

-- how many seconds all of them took: so many microseconds, each 10^-6 of one
abbrev pub sum_text : Family → ℕ → List ℕ
sum_text family micros = name_text family ++ (codes "_sum " ++ (decimal micros ++ codes "e-6\n"))

-- the whole histogram
unfoldable pub times_text : Family → LineSeconds → List ℕ
times_text family times =
    family_text family ++ (buckets_text family times.rows.items ++ (sum_text family times.micros ++ part_text family (codes "_count") [] times.lines))

-- the rows count ever more lines, from so many to all of these
abbrev pub AreRising : ℕ → List TimeRow → ℕ → Type 0
AreRising before [] all = before ≡ all
AreRising before (row ∷ rows) all = (before ≤ row.lines) × AreRising row.lines rows all
