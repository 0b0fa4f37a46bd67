mod AnswerLemmas
mod CallLemmas
mod ConnectLemmas
