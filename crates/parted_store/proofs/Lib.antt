mod PutBack
