-- The keywords.
use Rattle.std.specs.Prelude.{ℕ, List, [], ◌∷◌, Option, Some, None, bytes_eq, codes, if◌then◌else◌}
use Rattle.nb_script.specs.declared.lexeme.Keyword.{Keyword}
use Rattle.nb_script.specs.declared.lexeme.Keyword.TheVariants as k

abbrev pub keyword_text : Keyword → List ℕ
keyword_text k.Message = codes "message"
keyword_text k.Saga = codes "saga"
keyword_text k.Handler = codes "handler"
keyword_text k.On = codes "on"
keyword_text k.By = codes "by"
keyword_text k.Fields = codes "fields"
keyword_text k.Start = codes "start"
keyword_text k.Find = codes "find"
keyword_text k.Reply = codes "reply"
keyword_text k.Timeout = codes "timeout"
keyword_text k.Let = codes "let"
keyword_text k.Set = codes "set"
keyword_text k.Put = codes "put"
keyword_text k.Add = codes "add"
keyword_text k.Erase = codes "erase"
keyword_text k.Row = codes "row"
keyword_text k.Has = codes "has"
keyword_text k.Send = codes "send"
keyword_text k.Local = codes "local"
keyword_text k.Publish = codes "publish"
keyword_text k.Originator = codes "originator"
keyword_text k.After = codes "after"
keyword_text k.Complete = codes "complete"
keyword_text k.Fail = codes "fail"
keyword_text k.Reject = codes "reject"
keyword_text k.If = codes "if"
keyword_text k.Else = codes "else"
keyword_text k.Msg = codes "msg"
keyword_text k.True = codes "true"
keyword_text k.False = codes "false"
keyword_text k.Retries = codes "retries"
keyword_text k.Now = codes "now"
keyword_text k.Sent = codes "sent"
keyword_text k.Id = codes "id"
keyword_text k.Text = codes "text"
keyword_text k.Len = codes "len"
keyword_text k.Int = codes "int"
keyword_text k.Bool = codes "bool"

abbrev pub keywords : List Keyword
keywords =
    k.Message ∷ k.Saga ∷ k.Handler ∷ k.On ∷ k.By ∷ k.Fields ∷ k.Start ∷ k.Find ∷ k.Reply ∷ k.Timeout ∷ k.Let ∷ k.Set ∷ k.Put ∷ k.Add ∷ k.Erase ∷ k.Row ∷ k.Has ∷ k.Send ∷ k.Local ∷ k.Publish ∷ k.Originator ∷ k.After ∷ k.Complete ∷ k.Fail ∷ k.Reject ∷ k.If ∷ k.Else ∷ k.Msg ∷ k.True ∷ k.False ∷ k.Retries ∷ k.Now ∷ k.Sent ∷ k.Id ∷ k.Text ∷ k.Len ∷ k.Int ∷ k.Bool ∷ []

-- the first of these keywords that a word is
abbrev pub keyword_in : List Keyword → List ℕ → Option Keyword
keyword_in [] w = None
keyword_in (x ∷ xs) w = if bytes_eq w (keyword_text x) then Some x else keyword_in xs w

-- the keyword that a word is
unfoldable pub keyword_of : List ℕ → Option Keyword
keyword_of w = keyword_in keywords w
