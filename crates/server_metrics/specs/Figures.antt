-- Figures in the text format of Prometheus.
use Rattle.std.specs.Prelude.{ℕ, List, [], ◌∷◌, ◌++◌, decimal, codes}
use Rattle.std.specs.List.{flat_map}
use Rattle.server_metrics.specs.Families.{help_text, kind_text, name_text}
use Rattle.server_metrics.specs.declared.families.Family.{Family}
use Rattle.server_metrics.specs.declared.figures.Label.{Label}

-- the line that says what the figures of a family count, but for its end
abbrev pub help_line : Family → List ℕ
help_line family = codes "# HELP " ++ (name_text family ++ (codes " " ++ help_text family))

-- that end, and the line that says whether they may fall
abbrev pub kind_line : Family → List ℕ
kind_line family = codes "\n# TYPE " ++ (name_text family ++ kind_text family)

-- the two lines that come before the figures of a family
abbrev pub family_text : Family → List ℕ
family_text family = help_line family ++ kind_line family

-- a label's name and its value
abbrev pub pair_of : Label → List ℕ × List ℕ
pair_of label = (label.name.now, label.value.now)

-- one label
abbrev pub label_text : List ℕ × List ℕ → List ℕ
label_text label = label.0 ++ (codes "=\"" ++ (label.1 ++ codes "\""))

-- the labels behind the first
abbrev pub more_labels : List (List ℕ × List ℕ) → List ℕ
more_labels labels = flat_map (λ label. codes "," ++ label_text label) labels

-- the labels of a figure, or nothing where it has none
abbrev pub labels_text : List (List ℕ × List ℕ) → List ℕ
labels_text [] = []
labels_text (label ∷ labels) = codes "{" ++ (label_text label ++ (more_labels labels ++ codes "}"))

-- the number behind its name and labels, and the line's end
abbrev pub number_text : ℕ → List ℕ
number_text number = codes " " ++ (decimal number ++ codes "\n")

-- the line of a family's figure with these labels
abbrev pub figure_text : Family → List (List ℕ × List ℕ) → ℕ → List ℕ
figure_text family labels number = name_text family ++ (labels_text labels ++ number_text number)
