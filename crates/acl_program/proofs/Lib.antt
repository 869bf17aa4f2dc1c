mod Due
mod StreamLemmas
mod Taken
