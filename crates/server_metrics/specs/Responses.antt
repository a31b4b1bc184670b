-- The text that answers a request.
use Rattle.std.specs.Prelude.{ℕ, List, [], ◌++◌, length, decimal, codes}
use Rattle.server_metrics.specs.declared.answer.TheConstants.{OF_PAGE}
use Rattle.server_metrics.specs.declared.answer.Status.{Status}
use Rattle.server_metrics.specs.declared.answer.Status.TheVariants.{Well, BadRequest, Forbidden, NotFound, OtherMethod}
use Rattle.server_metrics.specs.declared.answer.Status.TheVariants.{TooLarge, NotWell, Full}

-- the number and the phrase
abbrev pub status_line : Status → List ℕ
status_line Well = codes "200 OK"
status_line BadRequest = codes "400 Bad Request"
status_line Forbidden = codes "403 Forbidden"
status_line NotFound = codes "404 Not Found"
status_line OtherMethod = codes "405 Method Not Allowed"
status_line TooLarge = codes "431 Request Header Fields Too Large"
status_line NotWell = codes "503 Service Unavailable"
status_line Full = codes "507 Insufficient Storage"

-- the header line that this status has beside the others
abbrev pub more_of : Status → List ℕ
more_of OtherMethod = codes "Allow: GET\r\n"
more_of Well = []
more_of BadRequest = []
more_of Forbidden = []
more_of NotFound = []
more_of TooLarge = []
more_of NotWell = []
more_of Full = []

-- the whole text of an answer
abbrev pub response_text : Status → List ℕ → List ℕ
response_text status body =
    codes "HTTP/1.1 " ++ (status_line status
    ++ (codes "\r\nContent-Type: text/plain; version=0.0.4; charset=utf-8\r\nContent-Length: "
    ++ (decimal (length body) ++ (codes "\r\n" ++ (more_of status ++ (codes "Connection: close\r\n\r\n" ++ body))))))

-- the whole text of an answer with a page of HTML
abbrev pub html_text : List ℕ → List ℕ
html_text body =
    codes "HTTP/1.1 200 OK\r\nContent-Type: text/html; charset=utf-8\r\nContent-Length: "
    ++ (decimal (length body) ++ (codes "\r\nContent-Security-Policy: " ++ (OF_PAGE.now ++ (codes "\r\nConnection: close\r\n\r\n" ++ body))))

-- the words for a client that gets this status
abbrev pub words_of : Status → List ℕ
words_of Well = codes "ok\n"
words_of BadRequest = codes "This is no request of HTTP/1.1.\n"
words_of Forbidden = codes "The host is not this machine.\n"
words_of NotFound = codes "There are /, /metrics and /health.\n"
words_of OtherMethod = codes "Only GET is answered.\n"
words_of TooLarge = codes "The head of the request is too long.\n"
words_of NotWell = codes "An epoch was not right or could not be checked, or a partition is not there.\n"
words_of Full = codes "full: some writes are refused, or no session is free\n"
