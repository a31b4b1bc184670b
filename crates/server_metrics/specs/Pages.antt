-- The pages that answer requests.
use Rattle.std.specs.Prelude.{ℕ, List}
use Rattle.server_metrics.specs.Health.{health_status, health_text}
use Rattle.server_metrics.specs.MetricsText.{metrics_text}
use Rattle.server_metrics.specs.Responses.{html_text, response_text, words_of}
use Rattle.server_metrics.specs.declared.answer.Status.{Status}
use Rattle.server_metrics.specs.declared.answer.Status.TheVariants.{Well}
use Rattle.server_metrics.specs.declared.metrics.ServerReadings.{ServerReadings}
use Rattle.server_metrics.specs.declared.overview.TheConstants.{OVERVIEW}

-- the page that shows a server in a browser
abbrev pub overview_text_page : List ℕ
overview_text_page = html_text OVERVIEW.now

-- the page of metrics, of a server that was read so
abbrev pub metrics_text_page : ServerReadings → List ℕ
metrics_text_page readings = response_text Well (metrics_text readings)

-- a page with the words of a status alone
abbrev pub text_page : Status → List ℕ
text_page status = response_text status (words_of status)

-- the page of health, of a server that was read so
abbrev pub health_text_page : ServerReadings → List ℕ
health_text_page readings = response_text (health_status readings) (health_text readings)
